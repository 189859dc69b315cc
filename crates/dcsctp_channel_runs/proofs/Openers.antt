-- The OPENs of channels that come in, and what is read on them after.
use Rattle.std.proofs.Common.{◌≡◌, ◌==◌, ◌≤◌, ℕ, zero, suc, ◌+◌, Bool, true, false, Some, List, [], ◌∷◌, refl, sym, ap, subst, ◌∙◌, inr, arith, ◌++◌, append_assoc, inl}
use Rattle.std.proofs.lemmas.Bool.{eqb-true}
use Rattle.std.specs.Prelude.{slice_get, if◌then◌else◌}
use Rattle.dcsctp_delivery_directions.specs.sending.Places.{HasEntry}
use Rattle.dcsctp_delivery_sockets.specs.sockets.UserMessages.{WereSent}
use Rattle.dcsctp_channel_calls.specs.api.types.queues.Messages.{MessageContent}
use Rattle.dcsctp_channel_calls.specs.messages.channel_spec.Contents.{ChannelContent}
use Rattle.dcsctp_channel_calls.specs.messages.Laws.{OpensReadBack}
use Rattle.dcsctp_channel_runs.specs.Acts.{OpenedChannel, NamedContent, SaidContent, contents_on}
use Rattle.dcsctp_channel_runs.specs.Opened.{IsSaidApart, HaveOpeners, WereOpened, EachToLater}
use Rattle.dcsctp_channel_runs.proofs.Said.{IsNoted, Rise}
use Rattle.dcsctp_channel_runs.proofs.Heard.{AreNamedElse, Heard, none_heard, a_dropped, a_channel, a_message, IsPassed}
use Rattle.dcsctp_channel_calls.specs.api.spec.endpoint.CallTurns.{Transition}
use Rattle.dcsctp_channel_calls.specs.api.spec.endpoint.Endpoint.{Endpoint}
use Rattle.dcsctp_channel_calls.specs.View.{LayerView}
use Rattle.dcsctp_channel_runs.proofs.Deeds.{Deed, messages_in}
use Rattle.dcsctp_channel_runs.proofs.SentBy.{Sent}
use Rattle.dcsctp_channel_runs.proofs.Picking.{among_both, Picks, picked_before, picked_there, picked_apart, AreOf, AreKeys, keys_stand, are_distinct, DeliveredSo}
use Rattle.dcsctp_channel_runs.proofs.MessageKinds.{NoOpen, IsOpenOn, SaysContentOn, sent_opens, is_open, same_opening}
use Rattle.dcsctp_channel_runs.proofs.Kept.{IsContentAt, kept_from}
use Rattle.dcsctp_channel_runs.proofs.Streams.{IsOn}
use Rattle.dcsctp_channel_runs.specs.Prefixes.{knows_stream}

-- what an end sent and read, and the streams that its channels had
pub record EndSaid : Type 0 where
  pub pairs : List (ℕ × ℕ)
  pub start : LayerView
  pub now : LayerView
  pub deeds : List Deed
  pub opens : List OpenedChannel
  pub says : List SaidContent
  pub sends : Sent pairs now start deeds opens says
  pub read : List MessageContent
  pub incoming : List OpenedChannel
  pub heard : List NamedContent
  pub from : Endpoint
  pub turns : List Transition
  pub hears : Heard pairs (IsPassed from turns) now start read incoming heard
  -- a channel has one stream
  pub one : (name number other : ℕ) → HasEntry (name, number) pairs → HasEntry (name, other) pairs → number ≡ other

-- ---- channels that rise

entry_at : (all : List OpenedChannel) (low : ℕ) (opens : List OpenedChannel) (high index : ℕ) (channel : OpenedChannel) → Rise all low opens high → slice_get opens index ≡ Some channel
    → (low ≤ channel.name) × HasEntry channel all
entry_at all low [] high index channel rises at = absurd cc
entry_at all low (first ∷ opens) high zero channel rises at =
    let same : first ≡ channel = cc in (subst (λ c. low ≤ c.name) same rises.0, subst (λ c. HasEntry c all) same rises.1)
entry_at all low (first ∷ opens) high (suc index) channel rises at =
    let later = entry_at all (first.name + 1) opens high index channel rises.2 at in
    let below : low ≤ first.name = rises.0 in
    let above : first.name + 1 ≤ channel.name = later.0 in
    (omega arith, later.1)

-- each name is at one place
name_at_once : (all : List OpenedChannel) (low : ℕ) (opens : List OpenedChannel) (high index other : ℕ) (x y : OpenedChannel) → Rise all low opens high → slice_get opens index ≡ Some x
    → slice_get opens other ≡ Some y → x.name ≡ y.name → index ≡ other
name_at_once all low [] high index other x y rises at there same = absurd cc
name_at_once all low (first ∷ opens) high zero zero x y rises at there same = refl
name_at_once all low (first ∷ opens) high zero (suc other) x y rises at there same =
    let is : first ≡ x = cc in
    let later : first.name + 1 ≤ y.name = (entry_at all (first.name + 1) opens high other y rises.2 there).0 in
    let name : first.name ≡ x.name = ap (λ c. c.name) is in absurd (omega arith)
name_at_once all low (first ∷ opens) high (suc index) zero x y rises at there same =
    let is : first ≡ y = cc in
    let later : first.name + 1 ≤ x.name = (entry_at all (first.name + 1) opens high index x rises.2 at).0 in
    let name : first.name ≡ y.name = ap (λ c. c.name) is in absurd (omega arith)
name_at_once all low (first ∷ opens) high (suc index) (suc other) x y rises at there same =
    ap suc (name_at_once all (first.name + 1) opens high index other x y rises.2 at there same)

-- ---- channels that come in

-- What was read, in this order: where it was sent, behind this place. None of a message of the stream is missing among these places
-- before one of them, if the socket knows the stream.
pub record ContentsBehind (Stand : ℕ → ℕ → Type 0) (Says : MessageContent → ChannelContent → Type 0) (Knows : Type 0) (sent : List MessageContent) (number place : ℕ) (rest : List ℕ) (heard : List ChannelContent) : Type 0 where
  pub places : List ℕ
  pub of : AreOf Says sent places heard
  pub stand : EachToLater Stand places
  pub behind : (later : ℕ) → HasEntry later places → Stand place later
  pub among : (later : ℕ) → HasEntry later places → HasEntry later rest
  pub kept : Knows → (earlier later : ℕ) → HasEntry later places → HasEntry earlier rest → (Stand later earlier → ⊥) → IsContentAt sent number earlier → HasEntry earlier places

module _ (back : OpensReadBack) (all : List OpenedChannel) (theirs ours : EndSaid) (high : ℕ) (rises : Rise all 0 theirs.opens high) (Stand : ℕ → ℕ → Type 0) (delivered : DeliveredSo Stand (messages_in theirs.deeds) ours.read) where
  abbrev picks : Picks (IsOpenOn theirs.pairs) NoOpen (messages_in theirs.deeds) theirs.opens
  picks = sent_opens theirs.pairs theirs.now theirs.start theirs.deeds theirs.opens theirs.says theirs.sends

  -- The OPEN at this place is of a channel of this name.
  pub record OpensAs (place name : ℕ) : Type 0 where
    pub m : MessageContent
    pub at : slice_get (messages_in theirs.deeds) place ≡ Some m
    pub kind : NoOpen m → ⊥
    pub channel : OpenedChannel
    pub there : slice_get theirs.opens (picked_before (messages_in theirs.deeds) theirs.opens picks place) ≡ Some channel
    pub is : channel.name ≡ name
    pub noted : IsNoted theirs.pairs name m

  opens_back : (place other name : ℕ) → OpensAs place name → OpensAs other name → place ≡ other
  opens_back place other name one two =
      picked_apart (messages_in theirs.deeds) theirs.opens picks place other one.m two.m one.at one.kind two.at two.kind
      (name_at_once all 0 theirs.opens high (picked_before (messages_in theirs.deeds) theirs.opens picks place) (picked_before (messages_in theirs.deeds) theirs.opens picks other) one.channel two.channel rises one.there two.there (one.is ∙ sym two.is))

  -- Our socket always knew the stream.
  abbrev pub KnowsStream : ℕ → Type 0
  KnowsStream number = (e : Endpoint) → IsPassed ours.from ours.turns e → knows_stream e number ≡ true

  abbrev pub ContentsOn : List NamedContent → OpenedChannel → ℕ → ℕ → List ℕ → Type 0
  ContentsOn heard channel number place rest =
      ContentsBehind Stand (SaysContentOn ours.pairs channel.name) (KnowsStream number) (messages_in theirs.deeds) number place rest (contents_on channel.name heard)

  -- It was read as that of a channel, and this is read on the channel after it.
  pub record OpenedThere (heard : List NamedContent) (channel : OpenedChannel) (there : ℕ) : Type 0 where
    pub place : ℕ
    pub opener : OpensAs place there
    pub opening : opener.channel.opening ≡ channel.opening
    pub noted : IsNoted ours.pairs channel.name opener.m
    pub front : List ℕ
    pub rest : List ℕ
    pub is : delivered.places ≡ front ++ place ∷ rest
    pub contents : ContentsOn heard channel opener.m.stream place rest

  -- what is read on another channel before makes no difference
  contents_else : (here : ℕ) (named : NamedContent) (heard : List NamedContent) → (here ≡ named.name → ⊥) → contents_on here (named ∷ heard) ≡ contents_on here heard
  contents_else here named heard apart = by (named.name == here) refl
    where
      by : (b : Bool) → (named.name == here) ≡ b → (if b then named.content ∷ contents_on here heard else contents_on here heard) ≡ contents_on here heard
      by true is = absurd (apart (sym (eqb-true named.name here is)))
      by false is = refl

  openers_else : (named : NamedContent) (heard : List NamedContent) (names : List ℕ) (channels : List OpenedChannel) → AreNamedElse named.name channels → HaveOpeners (OpenedThere heard) all names channels
      → HaveOpeners (OpenedThere (named ∷ heard)) all names channels
  openers_else named heard [] [] others have = tt
  openers_else named heard [] (channel ∷ channels) others have = absurd have
  openers_else named heard (name ∷ names) [] others have = absurd have
  openers_else named heard (name ∷ names) (channel ∷ channels) others have = (
    have.0,
    record {
      place = have.1.place;
      opener = have.1.opener;
      opening = have.1.opening;
      noted = have.1.noted;
      front = have.1.front;
      rest = have.1.rest;
      is = have.1.is;
      contents = subst
          (λ (l : List ChannelContent). ContentsBehind Stand (SaysContentOn ours.pairs channel.name) (KnowsStream have.1.opener.m.stream) (messages_in theirs.deeds) have.1.opener.m.stream have.1.place have.1.rest l)
          (sym (contents_else channel.name named heard others.0)) have.1.contents;
    },
    openers_else named heard names channels others.1 have.2,
  )

  record Openers (places : List ℕ) (channels : List OpenedChannel) (heard : List NamedContent) : Type 0 where
    names : List ℕ
    opens_at : List ℕ
    keys : AreKeys OpensAs opens_at names
    among : (place : ℕ) → HasEntry place opens_at → HasEntry place places
    apart : EachToLater IsSaidApart opens_at
    openers : HaveOpeners (OpenedThere heard) all names channels

  passed_by : (place : ℕ) (places : List ℕ) (channels : List OpenedChannel) (heard more : List NamedContent) → (others : Openers places channels heard) → HaveOpeners (OpenedThere more) all others.names channels
      → Openers (place ∷ places) channels more
  passed_by place places channels heard more others openers =
      record { names = others.names; opens_at = others.opens_at; keys = others.keys; among = λ p has. inr (others.among p has); apart = others.apart; openers = openers }

  -- what is read on a channel that has this stream from now on
  contents_here : (after : LayerView) (channel : OpenedChannel) (m : MessageContent) (read : List MessageContent) (place : ℕ) (places : List ℕ) (channels : List OpenedChannel) (heard : List NamedContent)
      → IsNoted ours.pairs channel.name m → IsOn after channel.name m.stream → Heard ours.pairs (IsPassed ours.from ours.turns) ours.now after read channels heard → WereSent (messages_in theirs.deeds) places read
      → EachToLater Stand (place ∷ places) → ContentsOn heard channel m.stream place places
  contents_here after channel m read place places channels heard noted on rest were stand =
      let found =
      kept_from ours.pairs (IsPassed ours.from ours.turns) ours.now channel.name m.stream (λ other has. ours.one channel.name other m.stream has noted) (messages_in theirs.deeds) Stand after read places channels heard rest (inl on) were in
      record {
        places = found.chosen;
        of = found.of;
        stand = found.stand stand.1;
        behind = λ later has. stand.0 later (found.among later has);
        among = found.among;
        kept = λ knows earlier later. found.kept knows stand.1 earlier later;
      }

  next_front : (front places : List ℕ) (place : ℕ) → delivered.places ≡ front ++ place ∷ places → delivered.places ≡ (front ++ place ∷ []) ++ places
  next_front front places place is = is ∙ sym (append_assoc front (place ∷ []) places)

  openers_of : (old : LayerView) (read : List MessageContent) (front places : List ℕ) (channels : List OpenedChannel) (heard : List NamedContent) → delivered.places ≡ front ++ places
      → Heard ours.pairs (IsPassed ours.from ours.turns) ours.now old read channels heard → WereSent (messages_in theirs.deeds) places read → EachToLater Stand places → EachToLater IsSaidApart places → Openers places channels heard
  unfolding passed_by
  openers_of _ _ front places _ _ whole (none_heard old keeps) were stand apart = record { names = []; opens_at = []; keys = tt; among = λ place has. absurd has; apart = tt; openers = tt }
  openers_of _ _ front [] _ _ whole (a_dropped old after m read channels heard keeps why rest) were stand apart = absurd were
  openers_of _ _ front (place ∷ places) _ _ whole (a_dropped old after m read channels heard keeps why rest) were stand apart =
      let others = openers_of after read (front ++ place ∷ []) places channels heard (next_front front places place whole) rest were.1 stand.1 apart.1 in passed_by place places channels heard heard others others.openers
  openers_of _ _ front [] _ _ whole (a_message old after m named read channels heard keeps is noted others_else open_there rest) were stand apart = absurd were
  openers_of _ _ front (place ∷ places) _ _ whole (a_message old after m named read channels heard keeps is noted others_else open_there rest) were stand apart =
      let others = openers_of after read (front ++ place ∷ []) places channels heard (next_front front places place whole) rest were.1 stand.1 apart.1 in
      passed_by place places channels heard (named ∷ heard) others (openers_else named heard others.names channels others_else others.openers)
  openers_of _ _ front [] _ _ whole (a_channel old after m channel read channels heard keeps is noted on rest) were stand apart = absurd were
  openers_of _ _ front (place ∷ places) _ _ whole (a_channel old after m channel read channels heard keeps is noted on rest) were stand apart =
      let others = openers_of after read (front ++ place ∷ []) places channels heard (next_front front places place whole) rest were.1 stand.1 apart.1 in
      let kind : NoOpen m → ⊥ = is_open m channel is in
      let there = picked_there (messages_in theirs.deeds) theirs.opens picks place m were.0 kind in
      let entry : HasEntry there.item all = (entry_at all 0 theirs.opens high (picked_before (messages_in theirs.deeds) theirs.opens picks place) there.item rises there.at).1 in
      let opener : OpensAs place there.item.name = record { m = m; at = were.0; kind = kind; channel = there.item; there = there.at; is = refl; noted = there.of.1 } in
      let opening = same_opening back m there.item channel there.of.0 is in
      record {
        names = there.item.name ∷ others.names;
        opens_at = place ∷ others.opens_at;
        keys = (opener, others.keys);
        among = λ p has. among_both place others.opens_at places p others.among has;
        apart = ((λ later has. apart.0 later (others.among later has)), others.apart);
        openers = (
          subst (λ o. HasEntry (record { name = there.item.name; opening = o }) all) opening entry,
          record {
            place = place;
            opener = opener;
            opening = opening;
            noted = noted;
            front = front;
            rest = places;
            is = whole;
            contents = contents_here after channel m read place places channels heard noted on rest were.1 stand;
          },
          others.openers,
        );
      }

  openers_as : (IsOne : OpenedChannel → ℕ → Type 0) → ((channel : OpenedChannel) (there : ℕ) → OpenedThere ours.heard channel there → IsOne channel there) → (names : List ℕ) (channels : List OpenedChannel)
      → HaveOpeners (OpenedThere ours.heard) all names channels → HaveOpeners IsOne all names channels
  openers_as IsOne one [] [] have = tt
  openers_as IsOne one [] (channel ∷ channels) have = absurd have
  openers_as IsOne one (name ∷ names) [] have = absurd have
  openers_as IsOne one (name ∷ names) (channel ∷ channels) have = (have.0, one channel name have.1, openers_as IsOne one names channels have.2)

  pub channels_were_opened : (IsOne : OpenedChannel → ℕ → Type 0) → ((channel : OpenedChannel) (there : ℕ) → OpenedThere ours.heard channel there → IsOne channel there) → WereOpened IsOne all ours.incoming
  channels_were_opened IsOne one =
      let found = openers_of ours.start ours.read [] delivered.places ours.incoming ours.heard refl ours.hears delivered.were_sent delivered.stand delivered.apart in
      record {
        names = found.names;
        openers = openers_as IsOne one found.names ours.incoming found.openers;
        once = are_distinct found.names
            (keys_stand OpensAs IsSaidApart IsSaidApart (λ place other name more two three apart same. apart (opens_back place other name two (subst (λ k. OpensAs other k) (sym same) three))) found.opens_at found.names found.keys found.apart);
      }
