-- Of the messages on the stream of a channel that is open none is dropped before one that is reported.
use Rattle.std.proofs.Common.{◌≡◌, ◌==◌, ℕ, Bool, true, false, Some, List, [], ◌∷◌, refl, sym, ap, subst, ◌∙◌, inl, inr}
use Rattle.std.specs.Prelude.{slice_get, if◌then◌else◌}
use Rattle.std.proofs.lemmas.Bool.{true≢false, eqb-true, eqb-false}
use Rattle.dcsctp_delivery_directions.specs.sending.Places.{HasEntry}
use Rattle.dcsctp_delivery_sockets.specs.sockets.UserMessages.{WereSent}
use Rattle.dcsctp_channel_calls.specs.api.types.queues.Messages.{MessageContent}
use Rattle.dcsctp_channel_calls.specs.api.spec.endpoint.Endpoint.{Endpoint}
use Rattle.dcsctp_channel_calls.specs.messages.channel_spec.Contents.{ChannelContent}
use Rattle.dcsctp_channel_calls.specs.View.{LayerView}
use Rattle.dcsctp_channel_laws.specs.Lives.{IsOrderly}
use Rattle.dcsctp_channel_runs.specs.Acts.{OpenedChannel, NamedContent, contents_on}
use Rattle.dcsctp_channel_runs.specs.Opened.{EachToLater}
use Rattle.dcsctp_channel_runs.proofs.Heard.{IsDropped, is_control, is_closing, is_over, is_elsewhere, IsOpenThere, Heard, none_heard, a_dropped, a_channel, a_message}
use Rattle.dcsctp_channel_runs.proofs.InPlace.{after_move}
use Rattle.dcsctp_channel_runs.proofs.Lasting.{closing_on}
use Rattle.dcsctp_channel_runs.proofs.MessageKinds.{NoContent, SaysContentOn}
use Rattle.dcsctp_channel_runs.proofs.Picking.{AreOf, among_both}
use Rattle.dcsctp_channel_runs.proofs.Sharing.{same_on_stream}
use Rattle.dcsctp_channel_runs.proofs.Streams.{IsOn, IsGone, IsOnOrGone, KeepStreams, on_not_gone}
use Rattle.dcsctp_channel_runs.specs.Prefixes.{knows_stream}

-- A message of a user was sent on the stream at this place.
pub record IsContentAt (sent : List MessageContent) (number place : ℕ) : Type 0 where
  pub m : MessageContent
  pub at : slice_get sent place ≡ Some m
  pub kind : NoContent m → ⊥
  pub on : m.stream ≡ number

-- Nothing is reported on the channel any more.
pub data IsDeaf (layer : LayerView) (here number : ℕ) : Type 0 where
  deaf_over : layer.over ≡ true → IsDeaf layer here number
  deaf_gone : IsGone layer here → IsDeaf layer here number
  deaf_closing : IsOn layer here number → closing_on layer number ≡ true → IsDeaf layer here number

deaf_later : (old new : LayerView) (here number : ℕ) → KeepStreams [] old new → IsDeaf old here number → IsDeaf new here number
deaf_later old new here number keeps (deaf_over over) = deaf_over (keeps.over over)
deaf_later old new here number keeps (deaf_gone gone) = deaf_gone (keeps.gone here gone)
deaf_later old new here number keeps (deaf_closing on closing) = by (keeps.stays here number on)
  where
    by : IsOnOrGone new here number → IsDeaf new here number
    by (inl still) = deaf_closing still ((keeps.lasts here number on still).closing closing)
    by (inr gone) = deaf_gone gone

deaf_not_open : (layer : LayerView) (here number : ℕ) → IsDeaf layer here number → IsOpenThere layer here number → ⊥
deaf_not_open layer here number (deaf_over over) is = true≢false (sym over ∙ is.lasts)
deaf_not_open layer here number (deaf_gone gone) is = on_not_gone layer here number is.on gone
deaf_not_open layer here number (deaf_closing on closing) is = true≢false (sym closing ∙ is.opened)

-- why a message of a user on the stream of the channel was dropped
pub deaf_where_dropped : (Passed : Endpoint → Type 0) (m : MessageContent) (after : LayerView) (here number : ℕ) → IsDropped Passed m after → IsOnOrGone after here number → ((e : Endpoint) → Passed e → knows_stream e number ≡ true)
    → (NoContent m → ⊥) → m.stream ≡ number → IsDeaf after here number
deaf_where_dropped Passed m after here number (is_control control) there knows kind on = absurd (kind control)
deaf_where_dropped Passed m after here number (is_closing closing) (inl is) knows kind on =
    deaf_closing is (subst (λ (k : ℕ). closing_on after k ≡ true) on (closing here (subst (λ (k : ℕ). IsOn after here k) (sym on) is)))
deaf_where_dropped Passed m after here number (is_closing closing) (inr gone) knows kind on = deaf_gone gone
deaf_where_dropped Passed m after here number (is_over over) there knows kind on = deaf_over over
deaf_where_dropped Passed m after here number (is_elsewhere e passed none) there knows kind on =
    absurd (true≢false (sym (knows e passed) ∙ ap (knows_stream e) (sym on) ∙ none))

-- The stream of another channel that is open isn't that of this one.
deaf_elsewhere : (after : LayerView) (name here number k : ℕ) → IsOrderly after → IsOpenThere after name k → IsOnOrGone after here number → k ≡ number → (name ≡ here → ⊥) → IsDeaf after here number
deaf_elsewhere after name here number k orderly is (inl on) same apart = absurd (apart (same_on_stream after orderly here name number on (subst (λ (n : ℕ). IsOn after name n) same is.on)))
deaf_elsewhere after name here number k orderly is (inr gone) same apart = deaf_gone gone

module _ (ps : List (ℕ × ℕ)) (Passed : Endpoint → Type 0) (now : LayerView) (here number : ℕ) (on_it : (other : ℕ) → HasEntry {A = ℕ × ℕ} (here, other) ps → other ≡ number) (sent : List MessageContent) (Stand : ℕ → ℕ → Type 0) where
  -- The places of what is reported on the channel are among these. None of a message of its stream is missing before one of them, if
  -- the socket knows the stream.
  pub record KeptFrom (old : LayerView) (places : List ℕ) (heard : List ChannelContent) : Type 0 where
    pub chosen : List ℕ
    pub of : AreOf (SaysContentOn ps here) sent chosen heard
    pub among : (place : ℕ) → HasEntry place chosen → HasEntry place places
    pub stand : EachToLater Stand places → EachToLater Stand chosen
    pub deaf : IsDeaf old here number → (place : ℕ) → HasEntry place chosen → ⊥
    pub kept : ((e : Endpoint) → Passed e → knows_stream e number ≡ true) → EachToLater Stand places → (earlier later : ℕ) → HasEntry later chosen → HasEntry earlier places → (Stand later earlier → ⊥)
        → IsContentAt sent number earlier → HasEntry earlier chosen

  -- the first message isn't reported on the channel
  module _ (old after : LayerView) (place : ℕ) (m : MessageContent) (places : List ℕ) (heard : List ChannelContent) (keeps : KeepStreams [] old after) (at : slice_get sent place ≡ Some m)
      (why : ((e : Endpoint) → Passed e → knows_stream e number ≡ true) → (NoContent m → ⊥) → m.stream ≡ number → IsDeaf after here number) (others : KeptFrom after places heard) where
    still_kept : ((e : Endpoint) → Passed e → knows_stream e number ≡ true) → EachToLater Stand (place ∷ places) → (earlier later : ℕ) → HasEntry later others.chosen → HasEntry earlier (place ∷ places) → (Stand later earlier → ⊥)
        → IsContentAt sent number earlier → HasEntry earlier others.chosen
    still_kept knows stand earlier later has (inl is) apart content =
        let here_at : slice_get sent place ≡ Some content.m = subst (λ (p : ℕ). slice_get sent p ≡ Some content.m) is content.at in
        let same : m ≡ content.m = cc in
        absurd (others.deaf (why knows (λ control. content.kind (subst NoContent same control)) (ap (λ (c : MessageContent). c.stream) same ∙ content.on)) later has)
    still_kept knows stand earlier later has (inr there) apart content = others.kept knows stand.1 earlier later has there apart content

    passes_by : KeptFrom old (place ∷ places) heard
    passes_by =
        record {
          chosen = others.chosen;
          of = others.of;
          among = λ p has. inr (others.among p has);
          stand = λ all. others.stand all.1;
          deaf = λ is p has. others.deaf (deaf_later old after here number keeps is) p has;
          kept = still_kept;
        }

  -- the first message is reported
  module _ (old after : LayerView) (place : ℕ) (m : MessageContent) (content : ChannelContent) (places : List ℕ) (heard : List ChannelContent) (keeps : KeepStreams [] old after) (at : slice_get sent place ≡ Some m)
      (says : SaysContentOn ps here m content) (is_open : IsOpenThere after here number) (others : KeptFrom after places heard) where
    kept_too : ((e : Endpoint) → Passed e → knows_stream e number ≡ true) → EachToLater Stand (place ∷ places) → (earlier later : ℕ) → HasEntry later (place ∷ others.chosen) → HasEntry earlier (place ∷ places) → (Stand later earlier → ⊥)
        → IsContentAt sent number earlier → HasEntry earlier (place ∷ others.chosen)
    kept_too knows stand earlier later has (inl is) apart found = inl is
    kept_too knows stand earlier later (inl is) (inr there) apart found = absurd (apart (subst (λ (p : ℕ). Stand p earlier) (sym is) (stand.0 earlier there)))
    kept_too knows stand earlier later (inr has) (inr there) apart found = inr (others.kept knows stand.1 earlier later has there apart found)

    keeps_one : KeptFrom old (place ∷ places) (content ∷ heard)
    keeps_one =
        record {
          chosen = place ∷ others.chosen;
          of = ((m, at, says), others.of);
          among = λ p has. among_both place others.chosen places p others.among has;
          stand = λ all. ((λ later has. all.0 later (others.among later has)), others.stand all.1);
          deaf = λ is p has. deaf_not_open after here number (deaf_later old after here number keeps is) is_open;
          kept = kept_too;
        }

  pub kept_from : (old : LayerView) (read : List MessageContent) (places : List ℕ) (channels : List OpenedChannel) (heard : List NamedContent) → Heard ps Passed now old read channels heard → IsOnOrGone old here number
      → WereSent sent places read → KeptFrom old places (contents_on here heard)
  unfolding passes_by keeps_one
  kept_from _ _ [] _ _ (none_heard old keeps) there were = record { chosen = []; of = tt; among = λ place has. has; stand = λ all. tt; deaf = λ is place has. has; kept = λ knows stand earlier later has. absurd has }
  kept_from _ _ (place ∷ places) _ _ (none_heard old keeps) there were = absurd were
  kept_from _ _ [] _ _ (a_dropped old after m read channels heard keeps why rest) there were = absurd were
  kept_from _ _ (place ∷ places) _ _ (a_dropped old after m read channels heard keeps why rest) there were =
      let still = after_move keeps here number there in
      passes_by old after place m places (contents_on here heard) keeps were.0 (λ knows kind on. deaf_where_dropped Passed m after here number why still knows kind on)
      (kept_from after read places channels heard rest still were.1)
  kept_from _ _ [] _ _ (a_channel old after m channel read channels heard keeps is noted on rest) there were = absurd were
  kept_from _ _ (place ∷ places) _ _ (a_channel old after m channel read channels heard keeps is noted on rest) there were =
      passes_by old after place m places (contents_on here heard) keeps were.0 (λ knows kind stream. absurd (kind is.ppid)) (kept_from after read places channels heard rest (after_move keeps here number there) were.1)
  kept_from _ _ [] _ _ (a_message old after m named read channels heard keeps is noted others_else open_there rest) there were = absurd were
  kept_from _ _ (place ∷ places) _ _ (a_message old after m named read channels heard keeps is noted others_else open_there rest) there were =
      by (named.name == here) refl (kept_from after read places channels heard rest (after_move keeps here number there) were.1)
    where
      by : (b : Bool) → (named.name == here) ≡ b → KeptFrom after places (contents_on here heard) → KeptFrom old (place ∷ places) (if b then named.content ∷ contents_on here heard else contents_on here heard)
      by true same others =
          let is_here : named.name ≡ here = eqb-true named.name here same in
          let noted_here = subst (λ (n : ℕ). HasEntry {A = ℕ × ℕ} (n, m.stream) ps) is_here noted in
          keeps_one old after place m named.content places (contents_on here heard) keeps were.0 (is, noted_here)
          (subst (λ (k : ℕ). IsOpenThere after here k) (on_it m.stream noted_here) (subst (λ (n : ℕ). IsOpenThere after n m.stream) is_here open_there)) others
      by false apart others =
          passes_by old after place m places (contents_on here heard) keeps were.0
          (λ knows kind stream. deaf_elsewhere after named.name here number m.stream keeps.orderly open_there (after_move keeps here number there) stream (eqb-false named.name here apart)) others
