-- What is reported in turn.
use Rattle.std.proofs.Common.{◌≡◌, ◌≤◌, ℕ, ◌+◌, List, [], ◌∷◌, ◌++◌, refl, sym, ap, subst, ◌∙◌, append_assoc, arith}
use Rattle.std.proofs.lemmas.List.{append-nil}
use Rattle.dcsctp_channel_calls.specs.messages.channel_spec.Slots.{opened, incoming, message, ended}
use Rattle.dcsctp_channel_calls.specs.declared.channel.Limits.{Limits}
use Rattle.dcsctp_channel_calls.specs.View.{ChannelNotice, packet_out, association_made, of_channel, amount_low, association_over, LayerView, ChannelsView}
use Rattle.dcsctp_channel_laws.specs.Names.{names_given, AreNew, AreWithin, Reports}

pub names_append : (xs ys : List ChannelNotice) → names_given (xs ++ ys) ≡ names_given xs ++ names_given ys
names_append [] ys = refl
names_append (packet_out p ∷ xs) ys = names_append xs ys
names_append (association_made ∷ xs) ys = names_append xs ys
names_append (of_channel (opened n) ∷ xs) ys = names_append xs ys
names_append (of_channel (incoming n o) ∷ xs) ys = ap (λ (ns : List ℕ). n ∷ ns) (names_append xs ys)
names_append (of_channel (message n m) ∷ xs) ys = names_append xs ys
names_append (of_channel (ended n e) ∷ xs) ys = names_append xs ys
names_append (amount_low n ∷ xs) ys = names_append xs ys
names_append (association_over ∷ xs) ys = names_append xs ys

new_from : (a b c : ℕ) (ns : List ℕ) → a ≤ b → AreNew b ns c → AreNew a ns c
new_from a b c [] le new = omega arith
new_from a b c (n ∷ ns) le (first, rest) = (omega arith, rest)

pub new_then : (a b c : ℕ) (ms ns : List ℕ) → AreNew a ms b → AreNew b ns c → AreNew a (ms ++ ns) c
new_then a b c [] ns first second = new_from a b c ns first second
new_then a b c (m ∷ ms) ns (le, first) second = (le, new_then (m + 1) b c ms ns first second)

pub within_append : (limits : Limits) (xs ys : List ChannelNotice) → AreWithin limits xs → AreWithin limits ys → AreWithin limits (xs ++ ys)
within_append limits [] ys a b = b
within_append limits (packet_out p ∷ xs) ys a b = within_append limits xs ys a b
within_append limits (association_made ∷ xs) ys a b = within_append limits xs ys a b
within_append limits (of_channel (opened n) ∷ xs) ys a b = within_append limits xs ys a b
within_append limits (of_channel (incoming n o) ∷ xs) ys (le, a) b = (le, within_append limits xs ys a b)
within_append limits (of_channel (message n m) ∷ xs) ys (le, a) b = (le, within_append limits xs ys a b)
within_append limits (of_channel (ended n e) ∷ xs) ys a b = within_append limits xs ys a b
within_append limits (amount_low n ∷ xs) ys a b = within_append limits xs ys a b
within_append limits (association_over ∷ xs) ys a b = within_append limits xs ys a b

-- ---- moves

pub le_same : (n : ℕ) → n ≤ n
le_same n = omega arith

abbrev pub Adds : LayerView → LayerView → Type 0
Adds old new = Reports old [] new

pub adds_then : (a b : LayerView) (taken : List ChannelNotice) (c : LayerView) → Adds a b → Reports b taken c → Reports a taken c
adds_then a b taken c first second =
    record {
      more = first.more ++ second.more;
      behind = second.behind ∙ ap (λ (ns : List ChannelNotice). ns ++ second.more) first.behind ∙ append_assoc a.notices first.more second.more;
      are_new = subst (λ (ns : List ℕ). AreNew a.named ns c.named) (sym (names_append first.more second.more)) (new_then a.named b.named c.named (names_given first.more) (names_given second.more) first.are_new second.are_new);
      are_within = within_append a.limits first.more second.more first.are_within (subst (λ (l : Limits). AreWithin l second.more) first.limits_stay second.are_within);
      limits_stay = second.limits_stay ∙ first.limits_stay;
    }

-- nothing of it gives a name
pub adds_quietly : (old new : LayerView) (more : List ChannelNotice) → new.notices ≡ old.notices ++ more → names_given more ≡ [] → AreWithin old.limits more → old.named ≤ new.named → new.limits ≡ old.limits → Adds old new
adds_quietly old new more behind none within le limits =
    record {
      more = more;
      behind = behind;
      are_new = subst (λ (ns : List ℕ). AreNew old.named ns new.named) (sym none) le;
      are_within = within;
      limits_stay = limits;
    }

pub adds_none : (old new : LayerView) → new.notices ≡ old.notices → old.named ≤ new.named → new.limits ≡ old.limits → Adds old new
adds_none old new same le limits = adds_quietly old new [] (same ∙ sym (append-nil old.notices)) refl tt le limits

pub adds_refl : (layer : LayerView) → Adds layer layer
adds_refl layer = adds_none layer layer refl (le_same layer.named) refl

pub adds_to : (old : LayerView) (between new : ChannelsView) → new ≡ between → Adds old between.layer → Adds old new.layer
adds_to old between new is adds = subst (λ (v : ChannelsView). Adds old v.layer) (sym is) adds

pub adds_from : (old between new : LayerView) (taken : List ChannelNotice) → between.notices ≡ old.notices → old.named ≤ between.named → between.limits ≡ old.limits → Reports between taken new
    → Reports old taken new
adds_from old between new taken same le limits adds = adds_then old between taken new (adds_none old between same le limits) adds

-- the number of names never falls
new_rises : (a b : ℕ) (ns : List ℕ) → AreNew a ns b → a ≤ b
new_rises a b [] le = le
new_rises a b (n ∷ ns) (le, rest) = let more : n + 1 ≤ b = new_rises (n + 1) b ns rest in omega arith

pub rises : (old new : LayerView) → Adds old new → old.named ≤ new.named
rises old new adds = new_rises old.named new.named (names_given adds.more) adds.are_new
