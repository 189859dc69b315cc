-- Each reset that a user is told of splits what it reads, with interleaving or without, where no request fails.
use Rattle.std.proofs.Common.{◌≡◌, ℕ, true, ◌<◌, ◌+◌, ◌^◌, List, [], length, sym, ◌∙◌, ap, subst, inl, inr}
use Rattle.dcsctp_spec_lemmas.specs.types.declared.options.Options.{Options}
use Rattle.dcsctp_spec_lemmas.specs.types.queues.Messages.{MessageContent}
use Rattle.dcsctp_spec_lemmas.specs.spec.endpoint.CallTurns.{Transition}
use Rattle.dcsctp_spec_lemmas.specs.spec.endpoint.MessageOutcomes.{Sending}
use Rattle.dcsctp_spec_runs.specs.Sockets.{endpoint_after}
use Rattle.dcsctp_theorem_sockets.specs.Agreement.{recorded_past}
use Rattle.dcsctp_delivery_directions.specs.sending.Places.{HasEntry}
use Rattle.dcsctp_delivery_directions.specs.sending.ChunkCounts.{chunks_to}
use Rattle.dcsctp_delivery_sockets.specs.associations.Ends.{ResetCalls, HadBoth, chunks_before, NumbersFromZero}
use Rattle.dcsctp_delivery_sockets.specs.associations.Reads.{with_key}
use Rattle.dcsctp_delivery_sockets.proofs.associations.Tagged.{PeersDiffer, ReadUnder, nothing_under, under_key, read_under_key, one_key}
use Rattle.dcsctp_delivery_sockets.specs.sockets.Epochs.{HasReset, ReportsPeerReset}
use Rattle.dcsctp_delivery_sockets.specs.sockets.Ordered.{StartsAtZero, read_under}
use Rattle.dcsctp_delivery_sockets.proofs.sockets.Stands.{Stand, queued_of, packets_of, reading_of}
use Rattle.dcsctp_delivery_sockets.proofs.sockets.UserMessages.{SaysSame, were_sent_so}
use Rattle.dcsctp_delivery_directions.specs.epochs.InTurn.{AreSplitInTurn}
use Rattle.dcsctp_delivery_sockets.proofs.associations.Split.{ends_split_as_asked}
use Rattle.dcsctp_delivery_sockets.specs.sockets.Split.{IsSplitByResets}
use Rattle.dcsctp_delivery_sockets.proofs.sockets.Epochs.{split_of, told_performed}

module _ (reset_calls : ResetCalls) (mine theirs : Options) (turns others : List Transition) (h : Stand reset_calls mine theirs turns others) (few : length (queued_of mine turns) < 2 ^ 64)
    (went : (tag : ℕ) → chunks_before (h.ends.former tag) (packets_of turns) + chunks_to (h.ends.latest tag) (packets_of turns) < 2 ^ 30)
    (mine_differ : PeersDiffer (recorded_past turns)) (theirs_differ : PeersDiffer (recorded_past others)) where
  module _ (sent : List Sending) (same : SaysSame (λ sending. sending) (queued_of mine turns) sent) (asked : (stream count : ℕ) → reset_calls.asks stream count ≡ true → HasReset mine turns stream count)
      (rules : (endpoint_after mine turns).options.follow_rfc ≡ mine.follow_rfc) (tag : ℕ) (starts : StartsAtZero mine turns) (fails_none : reset_calls.in_turn ≡ true) where
    abbrev Delivered : List MessageContent → Type 0
    Delivered read = IsSplitByResets (HasReset mine turns) (ReportsPeerReset theirs others tag) sent read

    -- what is performed under a tag of the sender
    cuts : (key : ℕ) → HadBoth (recorded_past turns) key tag → AreSplitInTurn reset_calls.asks (h.ends.gets key).performed (queued_of mine turns) (with_key key (reading_of theirs others).reads)
    cuts key both =
        subst (λ (calls : ResetCalls). AreSplitInTurn calls.asks (h.ends.gets key).performed (queued_of mine turns) (with_key key (reading_of theirs others).reads)) h.is
        (ends_split_as_asked theirs h.ends (endpoint_after mine turns) (queued_of mine turns) (recorded_past turns) (packets_of turns) (endpoint_after theirs others) (recorded_past others) (reading_of theirs others) h.between
        few went (ap (λ (calls : ResetCalls). calls.in_turn) h.is ∙ fails_none) key anew)
      where
        anew : NumbersFromZero (endpoint_after mine turns) (recorded_past turns) key
        anew = elim starts [ inl follows ↦ inl (rules ∙ follows) | inr one ↦ inr (λ link has. one link both.link has both.held ∙ both.tag_is) ]

    none_delivered : Delivered []
    none_delivered =
        record {
          places = [];
          were_sent = tt;
          once = tt;
          epochs = λ streams index told stream names. (
              let p = told_performed reset_calls mine theirs turns others h few went mine_differ theirs_differ tag streams index told in
              let c = (cuts p.key p.both).split stream (record { streams = streams; index = index }) p.performed names in
              record { count = c.place; ask = asked stream c.place c.asked; split = tt }
              );
        }

    key_delivered : (key : ℕ) → HadBoth (recorded_past turns) key tag → Delivered (with_key key (reading_of theirs others).reads)
    key_delivered key both =
        let d = cuts key both in
        record {
          places = d.delivered.places;
          were_sent = were_sent_so (queued_of mine turns) sent same d.delivered.places (with_key key (reading_of theirs others).reads) d.delivered.were_queued;
          once = d.delivered.once;
          epochs = λ streams index told stream names. (
              let p = told_performed reset_calls mine theirs turns others h few went mine_differ theirs_differ tag streams index told in
              let one : p.key ≡ key =
              one_key theirs h.ends (endpoint_after mine turns) (queued_of mine turns) (recorded_past turns) (packets_of turns) (endpoint_after theirs others) (recorded_past others) (reading_of theirs others) h.between mine_differ theirs_differ
              p.key key tag p.both both in
              let c = d.split stream (record { streams = streams; index = index }) (subst (λ (k : ℕ). HasEntry (record { streams = streams; index = index }) (h.ends.gets k).performed) one p.performed) names in
              record { count = c.place; ask = asked stream c.place c.asked; split = split_of (queued_of mine turns) sent same stream index c.place d.delivered.places c.separates }
              );
        }

    pub is_split : Delivered (read_under tag theirs others)
    is_split =
        go
        (read_under_key theirs h.ends (endpoint_after mine turns) (queued_of mine turns) (recorded_past turns) (packets_of turns) (endpoint_after theirs others) (recorded_past others) (reading_of theirs others) h.between mine_differ theirs_differ tag)
      where
        go : ReadUnder (recorded_past turns) (recorded_past others) (reading_of theirs others) tag → Delivered (read_under tag theirs others)
        go (nothing_under none) = subst Delivered (sym none) none_delivered
        go (under_key key read both their_link held peer own) = subst Delivered (sym read) (key_delivered key both)
