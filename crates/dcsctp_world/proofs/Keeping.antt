-- What is taken from a socket and kept.
use Rattle.std.proofs.Common.{◌≡◌, ℕ, zero, suc, ◌<◌, ◌≤◌, true, false, ltb, Option, Some, None, is_some, IfSome, List, [], ◌∷◌, ◌++◌, map, length, get_or, refl, sym, ap, ◌∙◌, append_assoc, arith, Vec, Bor}
use Rattle.std.proofs.lemmas.Bool.Decides.{nat_tests}
use Rattle.std.proofs.lemmas.List.{append-nil, map-append}
use Rattle.std.proofs.lemmas.Option.{slice_get-map, slice_get_read}
use Rattle.std.specs.List.{slice_get}
use Rattle.std.specs.Option.{option_map}
use Rattle.std.specs.declared.alloc.Global.{Global}
use Rattle.dcsctp_core.specs.spec.endpoint.Event.{Event, packets_of_events}
use Rattle.dcsctp_spec_runs.specs.Sockets.{packet_at_number}
use Rattle.dcsctp_core.specs.api.declared.events.SocketEvent.{SocketEvent}
use Rattle.dcsctp_core.specs.api.declared.events.SocketEvent.TheVariants.{SendPacket}
use Rattle.dcsctp_core.specs.api.Events.{event_content}
use Rattle.dcsctp_core.specs.api.Calls.{UserView, PollsEvent}
use Rattle.dcsctp_theorem_sockets.proofs.Bursts.{packets_of_events-append}
use Rattle.dcsctp_world.specs.Growth.{Extends, AppendsFirst, KeptOutput, with_events, KeepsFront}
use Rattle.dcsctp_world.specs.Parts.{bytes_of_packets, kept_output}

-- ---- lists that grow

pub extends_itself : {A : Type 0} (xs : List A) → Extends xs xs
extends_itself xs = record { added = []; behind = sym (append-nil xs) }

pub extends_by : {A : Type 0} {old new : List A} (added : List A) → new ≡ old ++ added → Extends old new
extends_by added behind = record { added = added; behind = behind }

pub extends_further : {A : Type 0} (xs ys zs : List A) → Extends xs ys → Extends ys zs → Extends xs zs
extends_further xs ys zs first second =
    record {
      added = first.added ++ second.added;
      behind = second.behind ∙ ap (λ l. l ++ second.added) first.behind ∙ append_assoc xs first.added second.added;
    }

-- ---- a front part of a list

pub front_same : {A : Type 0} {old new : List A} (all : List A) → new ≡ old → AppendsFirst all old new
front_same {old = old} all same = record { added = []; rest = all; behind = same ∙ sym (append-nil old); front = refl }

pub front_whole : {A : Type 0} {old new : List A} (all : List A) → new ≡ old ++ all → AppendsFirst all old new
front_whole all behind = record { added = all; rest = []; behind = behind; front = sym (append-nil all) }

-- the whole of what comes first, then a front part of what comes next
pub front_behind : {A : Type 0} (whole first all rest old mid new : List A) → whole ≡ first ++ (all ++ rest) → mid ≡ old ++ first → AppendsFirst all mid new → AppendsFirst whole old new
front_behind whole first all rest old mid new is before next =
    record {
      added = first ++ next.added;
      rest = next.rest ++ rest;
      behind = next.behind ∙ ap (λ l. l ++ next.added) before ∙ append_assoc old first next.added;
      front = is ∙ ap (λ l. first ++ (l ++ rest)) next.front ∙ ap (λ l. first ++ l) (append_assoc next.added next.rest rest)
          ∙ sym (append_assoc first next.added (next.rest ++ rest));
    }

-- ---- events that are kept

same_kept : (x y : KeptOutput) → x.events ≡ y.events → x.packets ≡ y.packets → x ≡ y
same_kept x y events packets =
    ap (λ (l : List (Event (List ℕ))). let k : KeptOutput = record { events = l; packets = x.packets } in k) events
    ∙ ap (λ (l : List (List ℕ)). let k : KeptOutput = record { events = y.events; packets = l } in k) packets

with_events-append : (kept_output : KeptOutput) (xs ys : List (Event (List ℕ))) → with_events ys (with_events xs kept_output) ≡ with_events (xs ++ ys) kept_output
with_events-append kept_output xs ys =
    same_kept (with_events ys (with_events xs kept_output)) (with_events (xs ++ ys) kept_output) (append_assoc kept_output.events xs ys)
    (append_assoc kept_output.packets (packets_of_events xs) (packets_of_events ys) ∙ ap (λ (l : List (List ℕ)). kept_output.packets ++ l) (sym (packets_of_events-append xs ys)))

-- an event that is kept
module _ (events events' : List SocketEvent) (packets packets' : List (Vec ℕ Global)) where
  added_events : (event : SocketEvent) → events' ≡ events ++ event ∷ [] → map event_content events' ≡ map event_content events ++ event_content event ∷ []
  added_events event is = ap (λ (l : List SocketEvent). map event_content l) is ∙ map-append event_content events (event ∷ [])

  -- its packet too
  added_packet : (event : SocketEvent) (packet copy : Vec ℕ Global) → event ≡ SendPacket packet → copy.items ≡ packet.items → packets' ≡ packets ++ copy ∷ []
      → bytes_of_packets packets' ≡ bytes_of_packets packets ++ packets_of_events (event_content event ∷ [])
  added_packet event packet copy is_packet same is =
      ap bytes_of_packets is ∙ map-append (λ (p : Vec ℕ Global). p.items) packets (copy ∷ [])
      ∙ ap (λ (l : List ℕ). bytes_of_packets packets ++ l ∷ []) same
      ∙ ap (λ (e : SocketEvent). bytes_of_packets packets ++ packets_of_events (event_content e ∷ [])) (sym is_packet)

  pub kept_packet : (event : SocketEvent) (packet copy : Vec ℕ Global) → event ≡ SendPacket packet → copy.items ≡ packet.items
      → events' ≡ events ++ event ∷ [] → packets' ≡ packets ++ copy ∷ []
      → kept_output events' packets' ≡ with_events (event_content event ∷ []) (kept_output events packets)
  kept_packet event packet copy is_packet same is_events is_packets =
      same_kept (kept_output events' packets') (with_events (event_content event ∷ []) (kept_output events packets)) (added_events event is_events)
      (added_packet event packet copy is_packet same is_packets)

  -- its packet alone: there was no memory for the event
  pub kept_packet_alone : (event : SocketEvent) (packet copy : Vec ℕ Global) → event ≡ SendPacket packet → copy.items ≡ packet.items
      → events' ≡ events → packets' ≡ packets ++ copy ∷ [] → KeepsFront (event_content event ∷ []) (kept_output events packets) (kept_output events' packets')
  kept_packet_alone event packet copy is_packet same is_events is_packets =
      record {
        events = front_same (event_content event ∷ []) (ap (λ (l : List SocketEvent). map event_content l) is_events);
        packets = front_whole (packets_of_events (event_content event ∷ [])) (added_packet event packet copy is_packet same is_packets);
      }

  pub kept_nothing : (event : SocketEvent) → events' ≡ events → packets' ≡ packets → KeepsFront (event_content event ∷ []) (kept_output events packets) (kept_output events' packets')
  kept_nothing event is_events is_packets =
      record {
        events = front_same (event_content event ∷ []) (ap (λ (l : List SocketEvent). map event_content l) is_events);
        packets = front_same (packets_of_events (event_content event ∷ [])) (ap bytes_of_packets is_packets);
      }

  no_packet : (event : SocketEvent) → ((packet : Vec ℕ Global) → event ≡ SendPacket packet → ⊥) → packets_of_events (event_content event ∷ []) ≡ []
  no_packet (SendPacket packet) none = absurd (none packet refl)
  no_packet event none = refl

  pub kept_other : (event : SocketEvent) → ((packet : Vec ℕ Global) → event ≡ SendPacket packet → ⊥) → events' ≡ events ++ event ∷ [] → packets' ≡ packets
      → kept_output events' packets' ≡ with_events (event_content event ∷ []) (kept_output events packets)
  kept_other event none is_events is_packets =
      same_kept (kept_output events' packets') (with_events (event_content event ∷ []) (kept_output events packets)) (added_events event is_events)
      (ap bytes_of_packets is_packets ∙ sym (append-nil (bytes_of_packets packets)) ∙ ap (λ (l : List (List ℕ)). bytes_of_packets packets ++ l) (sym (no_packet event none)))

-- Events were taken from a socket and kept, and nothing else of it changed.
pub record Taken (old : UserView) (kept_before : KeptOutput) (new : UserView) (kept_now : KeptOutput) : Type 0 where
  pub taken : List (Event (List ℕ))
  pub front : old.events ≡ taken ++ new.events
  pub kept : kept_now ≡ with_events taken kept_before
  pub rest : new ≡ record old { events = new.events }

pub taken_more : (old now new : UserView) (kept_before kept_now kept_then : KeptOutput) (event : SocketEvent)
    → Taken old kept_before now kept_now → PollsEvent now (Some event) new → kept_then ≡ with_events (event_content event ∷ []) kept_now
    → Taken old kept_before new kept_then
taken_more old now new kept_before kept_now kept_then event so_far polled kept_output =
    record {
      taken = so_far.taken ++ event_content event ∷ [];
      front = so_far.front ∙ ap (λ (l : List (Event (List ℕ))). so_far.taken ++ l) polled.0 ∙ sym (append_assoc so_far.taken (event_content event ∷ []) new.events);
      kept = kept_output ∙ ap (λ (k : KeptOutput). with_events (event_content event ∷ []) k) so_far.kept ∙ with_events-append kept_before so_far.taken (event_content event ∷ []);
      rest = polled.1 ∙ ap (λ (v : UserView). let w : UserView = record v { events = new.events } in w) so_far.rest;
    }

pub taken_in_part : (old now next : UserView) (kept_before kept_now kept_then : KeptOutput) (event : SocketEvent)
    → Taken old kept_before now kept_now → PollsEvent now (Some event) next → KeepsFront (event_content event ∷ []) kept_now kept_then
    → KeepsFront old.events kept_before kept_then
taken_in_part old now next kept_before kept_now kept_then event so_far polled part =
    let one : List (Event (List ℕ)) = event_content event ∷ [] in
    let whole : old.events ≡ so_far.taken ++ (one ++ next.events) = so_far.front ∙ ap (λ (l : List (Event (List ℕ))). so_far.taken ++ l) polled.0 in
    let packets : packets_of_events old.events ≡ packets_of_events so_far.taken ++ (packets_of_events one ++ packets_of_events next.events) =
    ap packets_of_events whole ∙ packets_of_events-append so_far.taken (one ++ next.events) ∙ ap (λ (l : List (List ℕ)). packets_of_events so_far.taken ++ l) (packets_of_events-append one next.events) in
    record {
      events = front_behind old.events so_far.taken one next.events kept_before.events kept_now.events kept_then.events
          whole (ap (λ (k : KeptOutput). k.events) so_far.kept) part.events;
      packets = front_behind (packets_of_events old.events) (packets_of_events so_far.taken) (packets_of_events one) (packets_of_events next.events) kept_before.packets kept_now.packets kept_then.packets
          packets (ap (λ (k : KeptOutput). k.packets) so_far.kept) part.packets;
    }

-- ---- a packet by its number

within : (k n : ℕ) → ltb k n ≡ true → k < n
within k n tests = grind (arith, nat_tests)

beyond : (k n : ℕ) → ltb k n ≡ false → n ≤ k
beyond k n tests = grind (arith, nat_tests)

slice_get_past : {A : Type 0} (xs : List A) (k : ℕ) → length xs ≤ k → slice_get xs k ≡ None
slice_get_past [] k past = refl
slice_get_past (x ∷ xs) zero past = absurd (omega arith)
slice_get_past (x ∷ xs) (suc k) past = slice_get_past xs k (omega arith)

pub numbered_found : (packets : List (Vec ℕ Global)) (number k : ℕ) (result : Option (Bor (Vec ℕ Global))) → number ≡ suc k
    → is_some result ≡ ltb k (length packets) → IfSome result (λ x. x.now ≡ get_or packets k x.now)
    → packet_at_number number (bytes_of_packets packets) ≡ option_map (λ (x : Bor (Vec ℕ Global)). x.now.items) result
numbered_found packets number k (Some x) is tests here =
    ap (λ (n : ℕ). packet_at_number n (bytes_of_packets packets)) is ∙ slice_get-map (λ (p : Vec ℕ Global). p.items) packets k
    ∙ ap (option_map (λ (p : Vec ℕ Global). p.items)) (slice_get_read packets (length packets) k x.now refl (within k (length packets) (sym tests)) here)
numbered_found packets number k None is tests here =
    ap (λ (n : ℕ). packet_at_number n (bytes_of_packets packets)) is ∙ slice_get-map (λ (p : Vec ℕ Global). p.items) packets k
    ∙ ap (option_map (λ (p : Vec ℕ Global). p.items)) (slice_get_past packets k (beyond k (length packets) (sym tests)))
