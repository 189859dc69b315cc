-- What users of channels do and are told, in lists of acts that grow.
use Rattle.std.proofs.Common.{◌≡◌, List, [], ◌∷◌, ◌++◌, refl, sym, ap, ◌∙◌, append_assoc}
use Rattle.std.proofs.lemmas.List.{append-nil}
use Rattle.dcsctp_channel_calls.specs.messages.channel_spec.Slots.{opened, incoming, message, ended}
use Rattle.dcsctp_channel_calls.specs.View.{ChannelNotice, packet_out, association_made, of_channel, amount_low, association_over}
use Rattle.dcsctp_channel_runs.specs.Acts.{EndAct, NamedContent, messages_reported}
use Rattle.dcsctp_channel_world.specs.Seen.{NamedEnd, messages_of_acts, messages_of_act, ends_reported}

pub messages_more : (acts : List EndAct) (act : EndAct) → messages_of_acts (acts ++ act ∷ []) ≡ messages_of_acts acts ++ messages_of_act act
messages_more [] act = append-nil (messages_of_act act)
messages_more (first ∷ acts) act =
    ap (λ (l : List NamedContent). messages_of_act first ++ l) (messages_more acts act) ∙ sym (append_assoc (messages_of_act first) (messages_of_acts acts) (messages_of_act act))

pub messages-append : (xs ys : List ChannelNotice) → messages_reported (xs ++ ys) ≡ messages_reported xs ++ messages_reported ys
messages-append [] ys = refl
messages-append (packet_out p ∷ xs) ys = messages-append xs ys
messages-append (association_made ∷ xs) ys = messages-append xs ys
messages-append (of_channel (opened n) ∷ xs) ys = messages-append xs ys
messages-append (of_channel (incoming n o) ∷ xs) ys = messages-append xs ys
messages-append (of_channel (message n m) ∷ xs) ys = ap (λ (l : List NamedContent). record { name = n; content = m } ∷ l) (messages-append xs ys)
messages-append (of_channel (ended n e) ∷ xs) ys = messages-append xs ys
messages-append (amount_low n ∷ xs) ys = messages-append xs ys
messages-append (association_over ∷ xs) ys = messages-append xs ys

pub ends-append : (xs ys : List ChannelNotice) → ends_reported (xs ++ ys) ≡ ends_reported xs ++ ends_reported ys
ends-append [] ys = refl
ends-append (packet_out p ∷ xs) ys = ends-append xs ys
ends-append (association_made ∷ xs) ys = ends-append xs ys
ends-append (of_channel (opened n) ∷ xs) ys = ends-append xs ys
ends-append (of_channel (incoming n o) ∷ xs) ys = ends-append xs ys
ends-append (of_channel (message n m) ∷ xs) ys = ends-append xs ys
ends-append (of_channel (ended n e) ∷ xs) ys = ap (λ (l : List NamedEnd). record { name = n; why = e } ∷ l) (ends-append xs ys)
ends-append (amount_low n ∷ xs) ys = ends-append xs ys
ends-append (association_over ∷ xs) ys = ends-append xs ys
