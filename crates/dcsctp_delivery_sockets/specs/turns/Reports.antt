-- What a socket's packets report of what it has received: the cumulative TSN of a SACK, and that of a
-- SHUTDOWN (RFC 9260, sections 3.3.4 and 3.3.8).
use Rattle.std.specs.Prelude.{◌≡◌, ℕ, Option, None, Some, List, [], ◌∷◌}
use Rattle.dcsctp_spec_lemmas.specs.wire.Content.{sack_chunk}
use Rattle.dcsctp_spec_lemmas.specs.spec.Packet.{Content, shutdown, unworked, plain}
use Rattle.dcsctp_spec_lemmas.specs.spec.queues.Tracker.{cumulative_tsn}
use Rattle.dcsctp_spec_lemmas.specs.spec.queues.Transfer.{Transfer}

-- This holds for the TSN that the chunk reports, if it reports one.
abbrev pub ReportsSo : (ℕ → Type 0) → Content → Type 0
ReportsSo so (plain (unworked (sack_chunk sack))) = so sack.cumulative_tsn_ack
ReportsSo so (shutdown tsn) = so tsn
ReportsSo so content = Unit {0}

-- So it does for each of these chunks.
abbrev pub AllReportSo : (ℕ → Type 0) → List Content → Type 0
AllReportSo so [] = Unit {0}
AllReportSo so (content ∷ contents) = ReportsSo so content × AllReportSo so contents

-- None of them reports a TSN.
abbrev pub NoReports : List Content → Type 0
NoReports contents = AllReportSo (λ tsn. ⊥) contents

-- It is the cumulative TSN of what was received, if there is an association.
abbrev pub IsCumulative : Option Transfer → ℕ → Type 0
IsCumulative None tsn = Unit {0}
IsCumulative (Some transfer) tsn = tsn ≡ cumulative_tsn transfer.tracker

-- This holds for the TSN that the chunk reports that is handled, if one is.
abbrev pub ComesReported : (ℕ → Type 0) → Option Content → Type 0
ComesReported so None = Unit {0}
ComesReported so (Some content) = ReportsSo so content
