-- What is ready fits the fields of a chunk, and what waits for a reset is of no stream of it.
use Rattle.std.proofs.Common.{◌≡◌, ℕ, Bool, true, false, ◌<◌, ◌≤◌, ◌+◌, ◌-◌, ◌%◌, ◌^◌, List, [], ◌∷◌, length, refl, sym, ap, arith, subst, inl, inr}
use Rattle.std.specs.Prelude.{Some}
use Rattle.std.specs.List.{AllByRecursion}
use Rattle.dcsctp_spec.specs.types.queues.Messages.{MessageContent}
use Rattle.dcsctp_spec.specs.queues.Reassembly.{WaitingModel, names_stream}
use Rattle.dcsctp_delivery_directions.specs.sending.Places.{HasEntry, at_place}
use Rattle.dcsctp_delivery_directions.specs.sending.Log.{Message, Piece, History, Fits}
use Rattle.dcsctp_delivery_directions.specs.receiving.Ready.{WereQueued}
use Rattle.dcsctp_delivery_directions.specs.receiving.Received.{AreBeyond, DefersData}
use Rattle.dcsctp_delivery_directions.proofs.sending.Places.{at_below, at_cases}
use Rattle.dcsctp_delivery_directions.proofs.receiving.Clearing.{behind}

-- ---- what is ready has a protocol identifier of 32 bits

pub fits_at : (n : ℕ) (m : Message) (queued : List Message) → AllByRecursion Fits queued → at_place n queued ≡ Some m → Fits m
fits_at n m [] fit at = absurd (cc)
fits_at n m (x ∷ queued) fit at = elim (at_cases n x m queued at) [ inl e ↦ subst Fits e.1 fit.0 | inr before ↦ fits_at n m queued fit.1 before ]

pub content_fits : (queued : List Message) (places : List ℕ) (contents : List MessageContent) → AllByRecursion Fits queued → WereQueued queued places contents → (c : MessageContent) → HasEntry c contents → c.ppid < 2 ^ 32
content_fits queued [] [] fit were c has = absurd has
content_fits queued [] (x ∷ contents) fit were c has = absurd were
content_fits queued (p ∷ places) [] fit were c has = absurd were
content_fits queued (p ∷ places) (x ∷ contents) fit were c has =
    elim has [
      | inl e ↦
          (let low = (fits_at p were.0.message queued fit were.0.at).ppid in
          let ppid = were.0.ppid in
          let same : c.ppid ≡ x.ppid = ap (λ (y : MessageContent). y.ppid) e in
          omega (arith, low, ppid, same))
      | inr t ↦ content_fits queued places contents fit were.1 c t
    ]

-- ---- what waits isn't of the streams of the reset

pub waiting_apart : (history : History) (first bound : ℕ) (streams : List ℕ) → first < 2 ^ 32 → length history.log < 2 ^ 31 → bound ≤ length history.log
    → ((id : ℕ) → names_stream streams id ≡ true → (n : ℕ) (f : Piece) → at_place n history.log ≡ Some (Some f) → f.message.stream ≡ id → n < bound) → (last_tsn : ℕ) → last_tsn ≡ (first + bound + (2 ^ 32 - 1)) % 2 ^ 32
    → (offsets : List ℕ) (waiting : List WaitingModel) → AreBeyond last_tsn waiting → DefersData history first offsets waiting → AllByRecursion (λ one. names_stream streams one.chunk.stream ≡ false) waiting
waiting_apart history first bound streams small little up below last_tsn last [] [] beyond defers = tt
waiting_apart history first bound streams small little up below last_tsn last (n ∷ offsets) [] beyond defers = absurd defers
waiting_apart history first bound streams small little up below last_tsn last [] (one ∷ waiting) beyond defers = absurd defers
waiting_apart history first bound streams small little up below last_tsn last (n ∷ offsets) (one ∷ waiting) beyond defers =
    (go (names_stream streams one.chunk.stream) refl, waiting_apart history first bound streams small little up below last_tsn last offsets waiting beyond.1 defers.1)
  where
    go : (b : Bool) → names_stream streams one.chunk.stream ≡ b → names_stream streams one.chunk.stream ≡ false
    go false is = is
    go true is =
        let c = defers.0.carries in
        let low = at_below n (Some c.piece) history.log c.at in
        let far = behind first n bound one.tsn last_tsn small (omega (arith, low, little)) (omega (arith, up, little)) c.is last beyond.0 in
        let near = below one.chunk.stream is n c.piece c.at (sym c.stream) in
        absurd (omega (arith, far, near))
