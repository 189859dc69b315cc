-- Our verification tag in the last association serves no other one (RFC 9260, section 5.3.1).
use Rattle.std.specs.Prelude.{◌≡◌, ◌⊎◌, ℕ, true, Option, None, Some, List, [], ◌∷◌}
use Rattle.dcsctp_spec_lemmas.specs.spec.Cookie.{Cookie}
use Rattle.dcsctp_spec_lemmas.specs.spec.endpoint.CookieEchoOutcomes.{CookieEchoTurn, stale_emission}
use Rattle.dcsctp_spec_lemmas.specs.spec.endpoint.EndOutcomes.{ended_tag}
use Rattle.dcsctp_spec_lemmas.specs.spec.endpoint.Endpoint.{Endpoint, held_by_core}
use Rattle.dcsctp_spec_lemmas.specs.spec.endpoint.Event.{packets_of_events}
use Rattle.dcsctp_spec_lemmas.specs.spec.endpoint.Outcome.{Outcome, packet_counted}
use Rattle.dcsctp_spec_lemmas.specs.spec.endpoint.Turn.{Input, Turn}
use Rattle.dcsctp_spec_lemmas.specs.spec.queues.Transfer.{Transfer}
use Rattle.dcsctp_spec_laws.specs.LeftLaws.{IsOwnInput}

-- What is recorded after a turn, by what there is before and after it.
abbrev pub RecordsLastTag : Endpoint → Option Transfer → Option Transfer → Option ℕ → Type 0
-- No association. If an attempt to connect ends, it had no peer, and so both are the same.
RecordsLastTag e None None last = (last ≡ e.last_tag) ⊎ (last ≡ ended_tag e.core e.last_tag)
-- It ends.
RecordsLastTag e (Some old) None last = last ≡ ended_tag e.core e.last_tag
-- One begins or continues, or another one takes its place.
RecordsLastTag e before (Some new) last = last ≡ e.last_tag

-- So it is of each turn.
abbrev pub LastTagStays : Type 0
LastTagStays = (e : Endpoint) (input : Input) (o : Outcome) → IsOwnInput input → Turn e input o → RecordsLastTag e e.queues.transfer o.after.queues.transfer o.after.last_tag

-- No packet goes out, or an ERROR that says that a cookie was too old.
abbrev pub ReportsStaleAtMost : Outcome → Type 0
ReportsStaleAtMost o = (packets_of_events o.events ≡ []) ⊎ ((cookie : Cookie) × (packets_of_events o.events ≡ stale_emission cookie ∷ []))

-- By the RFC a COOKIE ECHO under it makes nothing where there is no association: at most a packet says so.
abbrev pub LastTagIsSpent : Type 0
LastTagIsSpent =
    (e : Endpoint) (tag : ℕ) (bytes : List ℕ) (o : Outcome) → e.options.follow_rfc ≡ true → e.last_tag ≡ Some tag → held_by_core e.core ≡ None
    → CookieEchoTurn e tag bytes o → ((o.after ≡ e) ⊎ (o.after ≡ packet_counted e)) × (o.effects ≡ []) × ReportsStaleAtMost o
