-- What is read on channels was sent on them, by the places of delivery.
use Rattle.std.proofs.Common.{◌≡◌, ◌<◌, ℕ, Some, List, [], ◌∷◌, refl, sym, subst, ◌∙◌, inl, inr}
use Rattle.std.specs.Prelude.{slice_get}
use Rattle.dcsctp_delivery_directions.specs.sending.Places.{HasEntry}
use Rattle.dcsctp_delivery_sockets.specs.sockets.UserMessages.{IsDelivered}
use Rattle.dcsctp_channel_calls.specs.api.types.queues.Messages.{MessageContent}
use Rattle.dcsctp_channel_calls.specs.messages.channel_spec.Contents.{ChannelContent, ContentsReadBack}
use Rattle.dcsctp_channel_runs.specs.Acts.{SaidContent, contents_named, contents_on}
use Rattle.dcsctp_channel_runs.specs.Opened.{IsSaidApart, WereSaid, WereHeard, HasContent, EachToLater}
use Rattle.dcsctp_channel_runs.proofs.Heard.{SaysContent, IsPassed}
use Rattle.dcsctp_channel_runs.proofs.Deeds.{messages_in}
use Rattle.dcsctp_channel_runs.proofs.Picking.{Picks, picked_before, picked_there, picked_apart, AreOf, Any, picked_rises, chosen_from, AreKeys, keys_stand, DeliveredSo, delivered_once}
use Rattle.dcsctp_channel_runs.proofs.Streams.{IsOn}
use Rattle.dcsctp_channel_runs.proofs.MessageKinds.{NoContent, SaysContentOn, IsSaidOn, sent_contents, heard_contents, heard_on_channel, is_content, same_content}
use Rattle.dcsctp_channel_runs.proofs.Openers.{EndSaid}

-- ---- what is read on channels

module _ (pairs : List (ℕ × ℕ)) (Says : MessageContent → ChannelContent → Type 0) (says_so : (m : MessageContent) (content : ChannelContent) → Says m content → SaysContent m content)
    (IsFrom : SaidContent → ChannelContent → Type 0) (sent : List MessageContent) (said : List SaidContent)
    (picks : Picks (IsSaidOn pairs) NoContent sent said) (Good : ℕ → Type 0)
    (is_from : (m : MessageContent) (place index : ℕ) (one : SaidContent) (content : ChannelContent) → Good place → slice_get sent place ≡ Some m → picked_before sent said picks place ≡ index → slice_get said index ≡ Some one
    → IsSaidOn pairs m one → Says m content → IsFrom one content) where
  pub record SaysAs (place index : ℕ) : Type 0 where
    pub m : MessageContent
    pub at : slice_get sent place ≡ Some m
    pub kind : NoContent m → ⊥
    pub content : ChannelContent
    pub says : Says m content
    pub is : picked_before sent said picks place ≡ index

  pub says_back : (place other index more : ℕ) → SaysAs place index → SaysAs other more → index ≡ more → place ≡ other
  says_back place other index more one two same = picked_apart sent said picks place other one.m two.m one.at one.kind two.at two.kind (one.is ∙ same ∙ sym two.is)

  pub says_rise : (place other index more : ℕ) → SaysAs place index → SaysAs other more → place < other → index < more
  says_rise place other index more one two less =
      subst (λ k. k < more) one.is (subst (λ k. picked_before sent said picks place < k) two.is (picked_rises sent said picks place other one.m one.at one.kind less two.m two.at))

  pub record Indexes (places : List ℕ) (heard : List ChannelContent) : Type 0 where
    pub indexes : List ℕ
    pub keys : AreKeys SaysAs places indexes
    pub were : WereSaid IsFrom said indexes heard

  pub indexes_of : (places : List ℕ) (heard : List ChannelContent) → AreOf Says sent places heard → ((place : ℕ) → HasEntry place places → Good place) → Indexes places heard
  indexes_of [] [] are good = record { indexes = []; keys = tt; were = tt }
  indexes_of [] (content ∷ heard) are good = absurd are
  indexes_of (place ∷ places) [] are good = absurd are
  indexes_of (place ∷ places) (content ∷ heard) are good =
      let m : MessageContent = are.0.0 in
      let kind : NoContent m → ⊥ = is_content m content (says_so m content are.0.2) in
      let index : ℕ = picked_before sent said picks place in
      let there = picked_there sent said picks place m are.0.1 kind in
      let others = indexes_of places heard are.1 (λ later has. good later (inr has)) in
      record {
        indexes = index ∷ others.indexes;
        keys = (record { m = m; at = are.0.1; kind = kind; content = content; says = are.0.2; is = refl }, others.keys);
        were = ((there.item, there.at, is_from m place index there.item content (good place (inl refl)) are.0.1 refl there.at there.of are.0.2), others.were);
      }

  -- what is so of two places is so of the two contents
  abbrev pub LeadsOver : (ℕ → ℕ → Type 0) → (ℕ → ℕ → Type 0) → Type 0
  LeadsOver Stand Then =
      (place other index more : ℕ) → SaysAs place index → SaysAs other more → (index ≡ more → place ≡ other) → (place < other → index < more) → Stand place other → Then index more

  pub heard_at : (Stand Then : ℕ → ℕ → Type 0) → LeadsOver Stand Then → (places : List ℕ) (heard : List ChannelContent) → AreOf Says sent places heard → ((place : ℕ) → HasEntry place places → Good place) → EachToLater Stand places
      → WereHeard Then IsFrom said heard
  heard_at Stand Then leads places heard are good stand =
      let found = indexes_of places heard are good in
      record {
        places = found.indexes;
        were_said = found.were;
        stand = keys_stand SaysAs Stand Then
            (λ place other index more one two stands. leads place other index more one two (says_back place other index more one two) (says_rise place other index more one two) stands)
            places found.indexes found.keys stand;
      }

  were_heard : (Stand Then : ℕ → ℕ → Type 0) → LeadsOver Stand Then → ((place : ℕ) → Good place) → (read : List MessageContent) (heard : List ChannelContent) → DeliveredSo Stand sent read → Picks Says Any read heard
      → WereHeard Then IsFrom said heard
  were_heard Stand Then leads good read heard delivered says =
      let chosen = chosen_from Stand sent delivered.places read heard delivered.were_sent says in
      heard_at Stand Then leads chosen.chosen heard chosen.of (λ place has. good place) (chosen.stand delivered.stand)

-- ---- both

pub contents_were_heard : ContentsReadBack → (theirs ours : EndSaid) → IsDelivered (messages_in theirs.deeds) ours.read → WereHeard IsSaidApart HasContent theirs.says (contents_named ours.heard)
contents_were_heard back theirs ours delivered =
    were_heard theirs.pairs SaysContent (λ m content says. says) HasContent (messages_in theirs.deeds) theirs.says (sent_contents theirs.pairs theirs.now theirs.start theirs.deeds theirs.opens theirs.says theirs.sends) (λ place. Unit {0})
    (λ m place index one content good here picked at is says. same_content back m one.message.content content is.content says) IsSaidApart IsSaidApart (λ place other index more one two apart rise stands same. stands (apart same)) (λ place. tt)
    ours.read (contents_named ours.heard) (delivered_once (messages_in theirs.deeds) ours.read delivered) (heard_contents ours.pairs (IsPassed ours.from ours.turns) ours.now ours.start ours.read ours.incoming ours.heard ours.hears)

-- What is so of two places of messages of a stream is so of the two contents.
abbrev pub LeadsOnStream : List MessageContent → ℕ → (ℕ → ℕ → Type 0) → (ℕ → ℕ → Type 0) → Type 0
LeadsOnStream sent number Stand Then =
    (place other index more : ℕ) (m n : MessageContent) → slice_get sent place ≡ Some m → slice_get sent other ≡ Some n → m.stream ≡ number → n.stream ≡ number
    → (index ≡ more → place ≡ other) → (place < other → index < more) → Stand place other → Then index more

-- Two channels with one stream: what is read on the one was sent on this stream, on whatever channel.
module _ (back : ContentsReadBack) (theirs ours : EndSaid) (here number : ℕ) (on : HasEntry (here, number) ours.pairs) (IsFrom : SaidContent → ChannelContent → Type 0)
    (is_from : (index : ℕ) (one : SaidContent) (content : ChannelContent) → slice_get theirs.says index ≡ Some one → one.message.content ≡ content → HasEntry {A = ℕ × ℕ} (one.message.name, number) theirs.pairs
    → IsOn one.after one.message.name number → IsFrom one content)
    (Stand Then : ℕ → ℕ → Type 0) (leads : LeadsOnStream (messages_in theirs.deeds) number Stand Then) where
  same_number : (m : MessageContent) (content : ChannelContent) → SaysContentOn ours.pairs here m content → m.stream ≡ number
  same_number m content says = ours.one here m.stream number says.1 on

  from_it : (m : MessageContent) (index : ℕ) (one : SaidContent) (content : ChannelContent) → slice_get theirs.says index ≡ Some one → IsSaidOn theirs.pairs m one → SaysContentOn ours.pairs here m content → IsFrom one content
  from_it m index one content at is says =
      let same : m.stream ≡ number = same_number m content says in
      is_from index one content at (same_content back m one.message.content content is.content says.0) (subst (λ (k : ℕ). HasEntry {A = ℕ × ℕ} (one.message.name, k) theirs.pairs) same is.noted)
      (subst (λ (k : ℕ). IsOn one.after one.message.name k) same is.on)

  pub channel_was_heard : DeliveredSo Stand (messages_in theirs.deeds) ours.read → WereHeard Then IsFrom theirs.says (contents_on here ours.heard)
  channel_was_heard delivered =
      were_heard theirs.pairs (SaysContentOn ours.pairs here) (λ m content says. says.0) IsFrom (messages_in theirs.deeds) theirs.says (sent_contents theirs.pairs theirs.now theirs.start theirs.deeds theirs.opens theirs.says theirs.sends) (λ place. Unit {0})
      (λ m place index one content good there picked at is says. from_it m index one content at is says) Stand Then
      (λ place other index more one two apart rise stands. leads place other index more one.m two.m one.at two.at (same_number one.m one.content one.says) (same_number two.m two.content two.says) apart rise stands) (λ place. tt)
      ours.read (contents_on here ours.heard) delivered (heard_on_channel ours.pairs (IsPassed ours.from ours.turns) ours.now here ours.start ours.read ours.incoming ours.heard ours.hears)
