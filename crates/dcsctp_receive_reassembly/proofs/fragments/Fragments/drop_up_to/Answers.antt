-- The runs of the messages that are dropped are those in front.
use Rattle.std.proofs.Common.{◌≡◌, ℕ, List, map, sym, ◌∙◌, ap, subst}
use Rattle.dcsctp_api.specs.spec.queues.IncomingStreams.{runs_up_to, runs_behind}
use Rattle.dcsctp_api.specs.spec.queues.Runs.{RunModel, behind_place, runs_used}
use Rattle.dcsctp_receive_reassembly.specs.Held.{capped_u128}
use Rattle.dcsctp_receive_reassembly.specs.Runs.{run_model, up_to_place, AreInPlace}
use Rattle.std.specs.Prelude.{nat_le, not}
use Rattle.dcsctp_receive_reassembly.proofs.FragmentLemmas.{front_dropped, filtered_in_place}
use Rattle.dcsctp_receive_reassembly.proofs.fragments.Fragments.drop_up_to.Goals as goal

pub invariant_of-self : goal.invariant_of-self
invariant_of-self c =
    let front = front_dropped c.args.number c.self.inside.runs.entries c.len.ensures.ordered c.self.invariant in
    let kept : map run_model c.drop_places.new.runs.entries ≡ runs_behind c.args.number (map run_model c.self.inside.runs.entries) =
    c.drop_places.ensures.kept ∙ ap (λ (place : ℕ). behind_place place (map run_model c.self.inside.runs.entries)) c.fragment_place.ensures.is ∙ front.0 in
    subst AreInPlace (sym kept) (filtered_in_place (λ run. not (nat_le run.number c.args.number)) (map run_model c.self.inside.runs.entries) c.self.invariant)

pub returns-clause-kept : goal.returns-clause-kept
returns-clause-kept c =
    let front = front_dropped c.args.number c.self.inside.runs.entries c.len.ensures.ordered c.self.invariant in
    c.drop_places.ensures.kept
    ∙ ap (λ (place : ℕ). behind_place place (map run_model c.self.inside.runs.entries)) c.fragment_place.ensures.is
    ∙ front.0
    ∙ ap (λ (runs : List RunModel). runs_behind c.args.number runs) c.self.view_is

pub returns-clause-size : goal.returns-clause-size
returns-clause-size c =
    let front = front_dropped c.args.number c.self.inside.runs.entries c.len.ensures.ordered c.self.invariant in
    c.drop_places.ensures.size
    ∙ ap (λ (place : ℕ). capped_u128 (runs_used c.args.overhead (up_to_place place (map run_model c.self.inside.runs.entries)))) c.fragment_place.ensures.is
    ∙ ap (λ (runs : List RunModel). capped_u128 (runs_used c.args.overhead runs)) front.1
    ∙ ap (λ (runs : List RunModel). capped_u128 (runs_used c.args.overhead (runs_up_to c.args.number runs))) c.self.view_is
