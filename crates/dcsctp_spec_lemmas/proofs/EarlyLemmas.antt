-- A chunk that comes before the COOKIE ACK is dropped, or it is handled as any other.
use Rattle.std.proofs.Common.{◌≡◌, ℕ, Bool, true, false, refl}
use Rattle.dcsctp_spec_lemmas.specs.spec.Packet.{Content}
use Rattle.dcsctp_spec_lemmas.specs.spec.endpoint.Endpoint.{Endpoint}
use Rattle.dcsctp_spec_lemmas.specs.spec.endpoint.Outcome.{Outcome, still}
use Rattle.dcsctp_spec_lemmas.specs.spec.endpoint.Turn.{comes_early, HandlesContent, HandlesUnlessEarly, ContentTurn}

by_row : {P : Type 0} (e : Endpoint) (tag : ℕ) (content : Content) (o : Outcome) (early : Bool) → comes_early e content ≡ early
    → (comes_early e content ≡ true → o ≡ still e → P) → (comes_early e content ≡ false → HandlesContent e tag content o → P)
    → HandlesUnlessEarly early e tag content o → P
by_row e tag content o true is dropped handled turn = dropped is turn
by_row e tag content o false is dropped handled turn = handled is turn

-- by whether it comes early
pub content_where : {P : Type 0} (e : Endpoint) (tag : ℕ) (content : Content) (o : Outcome)
    → (comes_early e content ≡ true → o ≡ still e → P) → (comes_early e content ≡ false → HandlesContent e tag content o → P)
    → ContentTurn e tag content o → P
content_where e tag content o dropped handled turn = by_row e tag content o (comes_early e content) refl dropped handled turn

-- whichever it is
pub content_by : {P : Type 0} (e : Endpoint) (tag : ℕ) (content : Content) (o : Outcome) → (o ≡ still e → P) → (HandlesContent e tag content o → P)
    → ContentTurn e tag content o → P
content_by e tag content o dropped handled turn = content_where e tag content o (λ is rests. dropped rests) (λ is is_handled. handled is_handled) turn
