-- A lossy round after a COOKIE ECHO, with messages queued and data in flight; and a quiet one.
use Rattle.std.proofs.Common.{ℕ, suc, List, length, sym, subst, ◌∙◌}
use Rattle.dcsctp_spec_lemmas.specs.types.declared.options.Options.{Options}
use Rattle.dcsctp_spec_lemmas.specs.types.declared.schedule.Side.{Side}
use Rattle.dcsctp_spec_lemmas.specs.spec.Cookie.{Cookie}
use Rattle.dcsctp_spec_lemmas.specs.spec.endpoint.TimeTurns.{TimePassesQuietly, next_moment}
use Rattle.dcsctp_spec_runs.specs.Sockets.{PerformedAct, Both, turns_after, SocketRun}
use Rattle.dcsctp_theorem_sockets.specs.Agreement.{AreUsable}
use Rattle.dcsctp_theorem_sockets.specs.Handshake.{AreFitting}
use Rattle.dcsctp_theorem_progress.specs.Connecting.{connections_once_open}
use Rattle.dcsctp_theorem_progress.specs.DataEchoes.{EchoesWithData}
use Rattle.dcsctp_theorem_progress.specs.LossyRounds.{AnswersWithData, LossyRound}
use Rattle.dcsctp_theorem_progress.specs.Retries.{RetriesT1}
use Rattle.dcsctp_theorem_progress.specs.Rounds.{QuietRound, counts_shown}
use Rattle.dcsctp_theorem_sockets.proofs.Bytes.{ReadPairs, read_pairs_fit}
use Rattle.dcsctp_theorem_sockets.proofs.HandshakeTurns.{HandshakeLaws}
use Rattle.dcsctp_theorem_progress.proofs.AmidRounds.{GoneAgain, sent_after, goes_again}
use Rattle.dcsctp_theorem_progress.proofs.FourExchanges.{four_exchanges}
use Rattle.dcsctp_theorem_progress.proofs.Facts.{Fit}
use Rattle.dcsctp_theorem_progress.proofs.Handed.{Settles, settles}
use Rattle.dcsctp_theorem_progress.proofs.Joined.{JoinedBy}
use Rattle.dcsctp_theorem_progress.proofs.Lossy.{ran_lossy}
use Rattle.dcsctp_theorem_progress.proofs.Answering.{answering}
use Rattle.dcsctp_theorem_progress.proofs.LossyAcks.{echo_led}
use Rattle.dcsctp_theorem_progress.proofs.LossyEcho.{Led}
use Rattle.dcsctp_theorem_progress.proofs.Promise.{SettledBy, settled_in}
use Rattle.dcsctp_theorem_progress.proofs.Views.{AtOf, KeepOf, View, ran_exchanges}

pub lossy_data : HandshakeLaws → TimePassesQuietly → (side : Side) (options : Both Options) (settled : Both ℕ) (earlier run : List PerformedAct) (v w : View) (cookie : Cookie) (bytes : List ℕ) (more : ℕ) → AreUsable options
    → AreFitting options → AtOf side options earlier v w → KeepOf side options v w → EchoesWithData v.endpoint w.endpoint cookie bytes → RetriesT1 v.endpoint (suc more)
    → AnswersWithData v.endpoint w.endpoint cookie (next_moment v.endpoint) → LossyRound options (counts_shown options (turns_after earlier)) earlier settled run → SocketRun options run
    → Led side options run more (suc v.told) (connections_once_open w.endpoint.core w.told)
lossy_data law time side options settled earlier run v w cookie bytes more are fit at keep awaits t1 answers lossy runs =
    let between : SocketRun options lossy.between = ran_lossy options 4 _ settled lossy.between run lossy.exchanges runs in
    let g : GoneAgain side options lossy.between v w (sent_after v cookie bytes) more = goes_again law time side options earlier lossy.between v w cookie bytes more are fit at keep awaits t1 answers lossy.time between in
    let counts : Settles (counts_shown options (turns_after earlier)) side (length v.shown) (length w.shown) = settles side options earlier v w at in
    subst (λ (k : ℕ). Led side options run more (suc k) (connections_once_open w.endpoint.core w.told)) g.told_here
    (subst (λ (k : ℕ). Led side options run more (suc g.here.told) k) g.told_there
    (echo_led law.wire 3 side options (counts_shown options (turns_after earlier)) settled lossy.between run g.here g.there cookie bytes v.shown more (g.tells g.there.told) g.awaiting g.other
    (answering g.tells g.there g.here.endpoint.options cookie bytes g.takes) g.alone g.at (record { mine = counts.mine; others = counts.others ∙ sym g.shown }) lossy.exchanges runs))

-- With a restart left.
pub quiet_data : HandshakeLaws → TimePassesQuietly → (side : Side) (options : Both Options) (settled : Both ℕ) (earlier run : List PerformedAct) (v w : View) (cookie : Cookie) (bytes : List ℕ) → AreUsable options
    → AreFitting options → AtOf side options earlier v w → KeepOf side options v w → EchoesWithData v.endpoint w.endpoint cookie bytes → RetriesT1 v.endpoint 1
    → AnswersWithData v.endpoint w.endpoint cookie (next_moment v.endpoint) → QuietRound options (counts_shown options (turns_after earlier)) earlier settled run → SocketRun options run
    → SettledBy side options run (suc v.told) (connections_once_open w.endpoint.core w.told)
quiet_data law time side options settled earlier run v w cookie bytes are fit at keep awaits t1 answers quiet runs =
    let between : SocketRun options quiet.between = ran_exchanges options 4 _ quiet.between settled run quiet.exchanges runs in
    let g : GoneAgain side options quiet.between v w (sent_after v cookie bytes) 0 = goes_again law time side options earlier quiet.between v w cookie bytes 0 are fit at keep awaits t1 answers quiet.time between in
    let both : Fit g.here.endpoint.options g.there.endpoint.options = g.awaiting.fit in
    let read : ReadPairs cookie = read_pairs_fit bytes cookie awaits.fits.cookie_in_bytes awaits.reads in
    let counts : Settles (counts_shown options (turns_after earlier)) side (length v.shown) (length w.shown) = settles side options earlier v w at in
    let joined : JoinedBy side options run g.here g.there (suc g.here.told) (g.tells g.there.told) =
    four_exchanges law g.tells side options g.here g.there cookie bytes v.shown (counts_shown options (turns_after earlier)) settled quiet.between run both g.under
    (record { offered = g.awaiting.awaits.offer; fits = both.good_a.fits; maker = read.maker; port = both.to_b })
    (record { offered = g.awaiting.awaits.offer; fits = both.good_b.fits; addressee = read.addressee; port = both.to_a }) g.takes g.awaiting.keep g.at
    (record { mine = counts.mine; others = counts.others ∙ sym g.shown }) quiet.exchanges runs in
    subst (λ (k : ℕ). SettledBy side options run (suc k) (connections_once_open w.endpoint.core w.told)) g.told_here
    (subst (λ (k : ℕ). SettledBy side options run (suc g.here.told) k) g.told_there (settled_in side options run g.here g.there _ _ g.awaiting.keep joined))
