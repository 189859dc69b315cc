-- A lost INIT is made good in every run.
use Rattle.std.proofs.Common.{◌≡◌, ℕ, suc, List, ◌++◌, length, map, refl, sym, subst, ap, ◌∙◌, append_assoc}
use Rattle.std.proofs.lemmas.List.{map-append}
use Rattle.dcsctp_spec_lemmas.specs.types.declared.options.Options.{Options}
use Rattle.dcsctp_spec_lemmas.specs.types.declared.schedule.Side.TheVariants as sides
use Rattle.dcsctp_spec_lemmas.specs.types.Settings.{ports_of}
use Rattle.dcsctp_spec_lemmas.specs.spec.Packet.{Emission, emission_bytes}
use Rattle.dcsctp_spec_lemmas.specs.spec.endpoint.Event.{Event, event_map, packets_of_events}
use Rattle.dcsctp_spec_lemmas.specs.spec.endpoint.Endpoint.{Endpoint, fresh_endpoint}
use Rattle.dcsctp_spec_lemmas.specs.spec.endpoint.CallTurns.{Transition, after_all, events_of}
use Rattle.dcsctp_spec_lemmas.proofs.TurnLists.{after_all-append, events_of-append}
use Rattle.dcsctp_spec_runs.specs.Sockets.{Both, endpoint_after, packets_shown, packet_at_number, turns_after, DeliveryTurns}
use Rattle.dcsctp_theorem_sockets.specs.Agreement.{AreUsable}
use Rattle.dcsctp_theorem_sockets.specs.Handshake.{AreFitting}
use Rattle.dcsctp_theorem_sockets.proofs.Bursts.{packets_of_events-append}
use Rattle.dcsctp_theorem_progress.specs.LostInits.{LostInitsAreMadeGood, LostInitsOfBothAreMadeGood}
use Rattle.dcsctp_theorem_sockets.proofs.HandshakeTurns.{HandshakeLaws, Good}
use Rattle.dcsctp_theorem_progress.proofs.Facts.{Fit}
use Rattle.dcsctp_theorem_progress.proofs.LostInits.{connect_again}
use Rattle.dcsctp_theorem_progress.proofs.LostInitsOfBoth.{connect_too}

-- what is shown, and then more, where the options are still these
pub shown_then : (options now : Options) (xs ys : List Transition) → now ≡ options → packets_shown options (xs ++ ys) ≡ packets_shown options xs ++ packets_shown now ys
shown_then options now xs ys same =
    let f : Event Emission → Event (List ℕ) = event_map (emission_bytes (ports_of options)) in
    ap (λ (es : List (Event Emission)). packets_of_events (map f es)) (events_of-append xs ys)
    ∙ ap packets_of_events (map-append f (events_of xs) (events_of ys))
    ∙ packets_of_events-append (map f (events_of xs)) (map f (events_of ys))
    ∙ ap (λ (o : Options). packets_shown options xs ++ packets_shown o ys) (sym same)

shown_two : (options now : Options) (xs ys zs : List Transition) → now ≡ options → packets_shown options ((xs ++ ys) ++ zs) ≡ packets_shown options xs ++ packets_shown now (ys ++ zs)
shown_two options now xs ys zs same = ap (packets_shown options) (append_assoc xs ys zs) ∙ shown_then options now xs (ys ++ zs) same

ends_two : (e : Endpoint) (xs ys zs : List Transition) → after_all e ((xs ++ ys) ++ zs) ≡ after_all (after_all (after_all e xs) ys) zs
ends_two e xs ys zs = after_all-append e (xs ++ ys) zs ∙ ap (λ (f : Endpoint). after_all f zs) (after_all-append e xs ys)

pub moved : (number : ℕ) (e f : Endpoint) (xs ys : List (List ℕ)) (turns : List Transition) → e ≡ f → xs ≡ ys → DeliveryTurns e (packet_at_number number xs) turns → DeliveryTurns f (packet_at_number number ys) turns
moved number e f xs ys turns same is h =
    subst (λ (x : Endpoint). DeliveryTurns x (packet_at_number number ys) turns) same (subst (λ (ps : List (List ℕ)). DeliveryTurns e (packet_at_number number ps) turns) is h)

pub good_by : (options : Both Options) → AreUsable options → AreFitting options → (Good options.a) × (Good options.b)
good_by options are fit =
    (record { valid = (are sides.A).valid; fits = (are sides.A).fits; allow = fit.a }, record { valid = (are sides.B).valid; fits = (are sides.B).fits; allow = fit.b })

pub lost_inits_are_made_good : HandshakeLaws → LostInitsAreMadeGood
lost_inits_are_made_good law options earlier p moment o1 o2 o3 o4 o5 are fit keeps_a keeps_b nothing at rests anew runs =
    let turns : Both (List Transition) = turns_after earlier in
    let e : Endpoint = endpoint_after options.a turns.a in
    let f : Endpoint = endpoint_after options.b turns.b in
    let good = good_by options are fit in
    let to_b : e.options.remote_port ≡ f.options.local_port =
    ap (λ (o : Options). o.remote_port) keeps_a.same ∙ fit.to_b ∙ sym (ap (λ (o : Options). o.local_port) keeps_b.same) in
    let to_a : f.options.remote_port ≡ e.options.local_port =
    ap (λ (o : Options). o.remote_port) keeps_b.same ∙ fit.to_a ∙ sym (ap (λ (o : Options). o.local_port) keeps_a.same) in
    let fitting : Fit e.options f.options = record { good_a = subst Good (sym keeps_a.same) good.0; good_b = subst Good (sym keeps_b.same) good.1; to_b = to_b; to_a = to_a } in
    let shown_a : List (List ℕ) = packets_shown options.a turns.a in
    let shown_b : List (List ℕ) = packets_shown options.b turns.b in
    connect_again law e f p moment shown_a shown_b o1 o2 o3 o4 o5 nothing at rests anew fitting
    runs.1.1.1.1.0
    (moved (suc (length shown_a)) f f _ _ o2 refl (shown_then options.a e.options turns.a o1 keeps_a.same) runs.1.1.1.0)
    (moved (suc (length shown_b)) _ _ _ _ o3 (after_all-append (fresh_endpoint options.a) turns.a o1) (shown_then options.b f.options turns.b o2 keeps_b.same) runs.1.1.0)
    (moved (suc (suc (length shown_a))) _ _ _ _ o4 (after_all-append (fresh_endpoint options.b) turns.b o2) (shown_two options.a e.options turns.a o1 o3 keeps_a.same) runs.1.0)
    (moved (suc (suc (length shown_b))) _ _ _ _ o5 (ends_two (fresh_endpoint options.a) turns.a o1 o3) (shown_two options.b f.options turns.b o2 o4 keeps_b.same) runs.0)

pub lost_inits_of_both_are_made_good : HandshakeLaws → LostInitsOfBothAreMadeGood
lost_inits_of_both_are_made_good law options earlier p q moment o1 o2 o3 o4 o5 are fit keeps_a keeps_b nothing at rests runs =
    let turns : Both (List Transition) = turns_after earlier in
    let e : Endpoint = endpoint_after options.a turns.a in
    let f : Endpoint = endpoint_after options.b turns.b in
    let good = good_by options are fit in
    let to_b : e.options.remote_port ≡ f.options.local_port =
    ap (λ (o : Options). o.remote_port) keeps_a.same ∙ fit.to_b ∙ sym (ap (λ (o : Options). o.local_port) keeps_b.same) in
    let to_a : f.options.remote_port ≡ e.options.local_port =
    ap (λ (o : Options). o.remote_port) keeps_b.same ∙ fit.to_a ∙ sym (ap (λ (o : Options). o.local_port) keeps_a.same) in
    let fitting : Fit e.options f.options = record { good_a = subst Good (sym keeps_a.same) good.0; good_b = subst Good (sym keeps_b.same) good.1; to_b = to_b; to_a = to_a } in
    let shown_a : List (List ℕ) = packets_shown options.a turns.a in
    let shown_b : List (List ℕ) = packets_shown options.b turns.b in
    connect_too law e f p q moment shown_a shown_b o1 o2 o3 o4 o5 nothing at rests fitting
    runs.1.1.1.1.0
    (moved (suc (length shown_a)) f f _ _ o2 refl (shown_then options.a e.options turns.a o1 keeps_a.same) runs.1.1.1.0)
    (moved (suc (length shown_b)) _ _ _ _ o3 (after_all-append (fresh_endpoint options.a) turns.a o1) (shown_then options.b f.options turns.b o2 keeps_b.same) runs.1.1.0)
    (moved (suc (suc (length shown_a))) _ _ _ _ o4 (after_all-append (fresh_endpoint options.b) turns.b o2) (shown_two options.a e.options turns.a o1 o3 keeps_a.same) runs.1.0)
    (moved (suc (suc (length shown_b))) _ _ _ _ o5 (ends_two (fresh_endpoint options.a) turns.a o1 o3) (shown_two options.b f.options turns.b o2 o4 keeps_b.same) runs.0)
