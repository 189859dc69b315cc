-- Turns that take place, or are cut, from one kind to another.
use Rattle.std.proofs.Common.{Result, Ok, Err, refl, ap}
use Rattle.rand_core.specs.Stream.{Stream}
use Rattle.dcsctp_core.specs.spec.endpoint.Outcome.{Outcome}
use Rattle.dcsctp_core.specs.declared.context.Context.{Context}
use Rattle.dcsctp_core.specs.View.{View, view_of}
use Rattle.dcsctp_core.specs.Handling.{Tries, TakesTurn, CutsSomeTurn, TakesOne}
use Rattle.dcsctp_core.proofs.Composing.{cut_first}

pub takes_one : {R E : Type 0} (stream : R → Stream) (turn : View R → Outcome) (Turn : View R → Outcome → Type 0) (old : Context R) (result : Result (Unit {0}) E) (new : Context R)
    → Turn (view_of old) (turn (view_of old)) → TakesTurn stream turn old result new → TakesOne stream Turn old result new
takes_one stream turn Turn old (Ok done) new allowed h = record { outcome = turn (view_of old); turn = allowed; moves = h }
takes_one stream turn Turn old (Err error) new allowed h = record { outcome = turn (view_of old); turn = allowed; cut = h }

pub tries_one : {R E : Type 0} (stream : R → Stream) (turn : View R → Outcome) (Turn : View R → Outcome → Type 0) (old : Context R) (result : Result (Unit {0}) E) (new : Context R)
    → Turn (view_of old) (turn (view_of old)) → Tries stream turn old result new → TakesOne stream Turn old result new
tries_one stream turn Turn old (Ok done) new allowed h = record { outcome = turn (view_of old); turn = allowed; moves = h }
tries_one {R = R} stream turn Turn old (Err error) new allowed h =
    record { outcome = turn (view_of old); turn = allowed; cut = cut_first (view_of old) (turn (view_of old)) (view_of new).events (ap (λ (v : View R). v.events) h) }

-- a turn that may be, cut before its first event
pub cut_before : {R : Type 0} (Turn : View R → Outcome → Type 0) (view : View R) (o : Outcome) → Turn view o → CutsSomeTurn Turn view view.events
cut_before Turn view o allowed = record { outcome = o; turn = allowed; cut = cut_first view o view.events refl }
