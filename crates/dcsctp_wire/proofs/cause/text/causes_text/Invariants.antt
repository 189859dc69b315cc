use Rattle.std.proofs.Common.{◌≡◌, ◌++◌, ◌∷◌, map, take, string_bytes}
use Rattle.std.specs.List.{flat_map}
use Rattle.dcsctp_wire.specs.Content.{CauseContent, cause_content}
use Rattle.dcsctp_wire.specs.Texts.{cause_text}
use Rattle.dcsctp_wire.proofs.cause.text.causes_text.Given as goal

-- a comma comes before each cause but the first
abbrev pub invariant-loop-cause : goal.invariant-loop-cause
invariant-loop-cause l =
    string_bytes l.text ≡ string_bytes l.initial.text ++ flat_map (λ (cause : CauseContent). 44 ∷ cause_text cause) (map cause_content (take l.cause-index l.others))
