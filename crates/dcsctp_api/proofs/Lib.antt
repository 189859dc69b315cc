pub use Rattle.dcsctp_spec_lemmas.proofs.wire_lemmas as wire_lemmas
pub use Rattle.dcsctp_spec_lemmas.proofs as spec_lemmas
