-- What is read of an INIT or INIT ACK has its minima (RFC 9260, sections 3.3.2 and 3.3.3).
use Rattle.std.proofs.Common.{ℕ, Bool, true, false, cond, Option, None, Some, List, [], ◌∷◌, sym, subst}
use Rattle.std.specs.Prelude.{◌==◌, slice_index}
use Rattle.std.specs.List.{AllByRecursion}
use Rattle.dcsctp_spec_lemmas.specs.wire.Content.{CauseContent, ParameterContent, ChunkContent, init_chunk, init_ack_chunk, heartbeat_chunk, heartbeat_ack_chunk, abort_chunk, shutdown_ack_chunk, error_chunk, cookie_echo_chunk, cookie_ack_chunk, shutdown_complete_chunk, re_config_chunk, unknown_chunk}
use Rattle.dcsctp_spec_lemmas.specs.wire.Fields.{lowest_bit, content_of_fields, data_of_value, i_data_of_value, sack_of_value, shutdown_of_value, forward_tsn_of_value, i_forward_tsn_of_value}
use Rattle.dcsctp_spec_lemmas.specs.wire.Format.{Form, introduction, parameter_list, cause_list, fields, form_of, HasForm, AreChunks}
use Rattle.dcsctp_spec_lemmas.specs.wire.Numbers.{init_type, init_ack_type, heartbeat_type, heartbeat_ack_type, abort_type, error_type, re_config_type, data_type, sack_type, shutdown_type, shutdown_ack_type, cookie_echo_type, cookie_ack_type, shutdown_complete_type, i_data_type, forward_tsn_type, i_forward_tsn_type}
use Rattle.dcsctp_spec_lemmas.specs.wire.ReadsBack.{HasMinima}

-- ---- what fields say

-- if a chunk was read
data MinimaIf : Option ChunkContent → Type 0 where
  nothing : MinimaIf None
  read : (chunk : ChunkContent) → HasMinima chunk → MinimaIf (Some chunk)

either : (b : Bool) (x y : Option ChunkContent) → MinimaIf x → MinimaIf y → MinimaIf (cond b x y)
either true x y first second = first
either false x y first second = second

data_minima : (flags : ℕ) (value : List ℕ) → MinimaIf (data_of_value flags value)
unfolding data_of_value
data_minima flags value = either _ _ _ nothing (read _ tt)

i_data_minima : (flags : ℕ) (value : List ℕ) → MinimaIf (i_data_of_value flags value)
unfolding i_data_of_value
i_data_minima flags value = either _ _ _ nothing (read _ tt)

sack_minima : (value : List ℕ) → MinimaIf (sack_of_value value)
unfolding sack_of_value
sack_minima value = either _ _ _ nothing (either _ _ _ nothing (read _ tt))

shutdown_minima : (value : List ℕ) → MinimaIf (shutdown_of_value value)
unfolding shutdown_of_value
shutdown_minima value = either _ _ _ nothing (read _ tt)

forward_minima : (value : List ℕ) → MinimaIf (forward_tsn_of_value value)
unfolding forward_tsn_of_value
forward_minima value = either _ _ _ (read _ tt) nothing

i_forward_minima : (value : List ℕ) → MinimaIf (i_forward_tsn_of_value value)
unfolding i_forward_tsn_of_value
i_forward_minima value = either _ _ _ (read _ tt) nothing

fields_minima : (chunk_type flags : ℕ) (value : List ℕ) → MinimaIf (content_of_fields chunk_type flags value)
unfolding content_of_fields
fields_minima chunk_type flags value =
    either (chunk_type == data_type) _ _ (data_minima flags value)
    (either (chunk_type == sack_type) _ _ (sack_minima value)
    (either (chunk_type == shutdown_type) _ _ (shutdown_minima value)
    (either (chunk_type == shutdown_ack_type) _ _ (read shutdown_ack_chunk tt)
    (either (chunk_type == cookie_echo_type) _ _ (read (cookie_echo_chunk value) tt)
    (either (chunk_type == cookie_ack_type) _ _ (read cookie_ack_chunk tt)
    (either (chunk_type == shutdown_complete_type) _ _ (read (shutdown_complete_chunk (lowest_bit flags)) tt)
    (either (chunk_type == i_data_type) _ _ (i_data_minima flags value)
    (either (chunk_type == forward_tsn_type) _ _ (forward_minima value)
    (either (chunk_type == i_forward_tsn_type) _ _ (i_forward_minima value) (read (unknown_chunk chunk_type flags value) tt))))))))))

-- ---- a chunk

-- whatever is read in this form has its minima
abbrev FormHasMinima : ℕ → ℕ → List ℕ → Form → Type 0
FormHasMinima chunk_type flags value form = (chunk : ChunkContent) → HasForm form chunk chunk_type flags value → HasMinima chunk

either_form : (b : Bool) (chunk_type flags : ℕ) (value : List ℕ) (x y : Form) → FormHasMinima chunk_type flags value x → FormHasMinima chunk_type flags value y
    → FormHasMinima chunk_type flags value (cond b x y)
either_form true chunk_type flags value x y first second = first
either_form false chunk_type flags value x y first second = second

init_form : (chunk_type flags : ℕ) (value : List ℕ) → FormHasMinima chunk_type flags value (introduction init_chunk)
init_form chunk_type flags value chunk is = subst HasMinima (sym is.1) is.2.minima

init_ack_form : (chunk_type flags : ℕ) (value : List ℕ) → FormHasMinima chunk_type flags value (introduction init_ack_chunk)
init_ack_form chunk_type flags value chunk is = subst HasMinima (sym is.1) is.2.minima

chunk_minima : (chunk : ChunkContent) → MinimaIf (Some chunk) → HasMinima chunk
chunk_minima _ (read chunk minima) = minima

fields_form : (chunk_type flags : ℕ) (value : List ℕ) → FormHasMinima chunk_type flags value fields
fields_form chunk_type flags value chunk is = chunk_minima chunk (subst MinimaIf is (fields_minima chunk_type flags value))

parameters_form : (says : List ParameterContent → ChunkContent) → ((parameters : List ParameterContent) → HasMinima (says parameters))
    → (chunk_type flags : ℕ) (value : List ℕ) → FormHasMinima chunk_type flags value (parameter_list says)
parameters_form says have chunk_type flags value chunk is = subst HasMinima (sym is.1) (have is.0)

causes_form : (says : Bool → List CauseContent → ChunkContent) → ((bit : Bool) (causes : List CauseContent) → HasMinima (says bit causes))
    → (chunk_type flags : ℕ) (value : List ℕ) → FormHasMinima chunk_type flags value (cause_list says)
causes_form says have chunk_type flags value chunk is = subst HasMinima (sym is.1) (have (lowest_bit flags) is.0)

form_minima : (chunk_type flags : ℕ) (value : List ℕ) → FormHasMinima chunk_type flags value (form_of chunk_type)
unfolding form_of
form_minima n flags value =
    either_form (n == init_type) n flags value _ _ (init_form n flags value)
    (either_form (n == init_ack_type) n flags value _ _ (init_ack_form n flags value)
    (either_form (n == heartbeat_type) n flags value _ _ (parameters_form heartbeat_chunk (λ parameters. tt) n flags value)
    (either_form (n == heartbeat_ack_type) n flags value _ _ (parameters_form heartbeat_ack_chunk (λ parameters. tt) n flags value)
    (either_form (n == abort_type) n flags value _ _ (causes_form abort_chunk (λ bit causes. tt) n flags value)
    (either_form (n == error_type) n flags value _ _ (causes_form (λ bit causes. error_chunk causes) (λ bit causes. tt) n flags value)
    (either_form (n == re_config_type) n flags value _ _ (parameters_form re_config_chunk (λ parameters. tt) n flags value) (fields_form n flags value)))))))

-- ---- chunks

pub chunks_have_minima : (chunks : List ChunkContent) (bytes : List ℕ) → AreChunks chunks bytes → AllByRecursion HasMinima chunks
chunks_have_minima [] bytes are = tt
chunks_have_minima (chunk ∷ chunks) bytes are =
    (form_minima (slice_index bytes 0) (slice_index bytes 1) are.1.value chunk are.1.read, chunks_have_minima chunks are.0 are.2)
