-- What the header and the value of a chunk say is unique.
use Rattle.std.proofs.Common.{◌≡◌, ℕ, List, Some, sym, ap, ◌∙◌}
use Rattle.std.specs.Prelude.{slice_index}
use Rattle.dcsctp_wire.specs.Content.{InitContent, ChunkContent}
use Rattle.dcsctp_wire.specs.Fields.{parameter_of, cause_of, lowest_bit}
use Rattle.dcsctp_wire.specs.Format.{IsReadAsItem, IsInitValue, Form, introduction, parameter_list, cause_list, fields, form_of, HasForm, IsReadByHeader}
use Rattle.dcsctp_wire.proofs.Items.{SaysOne, one_is_read, same_items}

-- a value is one INIT
same_init : (a b : InitContent) (value : List ℕ) → IsInitValue a value → IsInitValue b value → a ≡ b
same_init a b value x y =
    let tag : a.initiate_tag ≡ b.initiate_tag = x.initiate_tag ∙ sym y.initiate_tag in
    let window : a.a_rwnd ≡ b.a_rwnd = x.a_rwnd ∙ sym y.a_rwnd in
    let outbound : a.outbound_streams ≡ b.outbound_streams = x.outbound_streams ∙ sym y.outbound_streams in
    let inbound : a.inbound_streams ≡ b.inbound_streams = x.inbound_streams ∙ sym y.inbound_streams in
    let tsn : a.initial_tsn ≡ b.initial_tsn = x.initial_tsn ∙ sym y.initial_tsn in
    let parameters : a.parameters ≡ b.parameters = same_items (IsReadAsItem parameter_of) (one_is_read parameter_of) a.parameters b.parameters _ x.parameters y.parameters in
    λ i. record {
      initiate_tag = tag i;
      a_rwnd = window i;
      outbound_streams = outbound i;
      inbound_streams = inbound i;
      initial_tsn = tsn i;
      parameters = parameters i;
    }

-- type, flags and value are those of one chunk of a form
same_by : (form : Form) (a b : ChunkContent) (chunk_type flags : ℕ) (value : List ℕ) → HasForm form a chunk_type flags value → HasForm form b chunk_type flags value → a ≡ b
same_by (introduction says) a b chunk_type flags value x y = x.1 ∙ ap says (same_init x.0 y.0 value x.2 y.2) ∙ sym y.1
same_by (parameter_list says) a b chunk_type flags value x y =
    x.1 ∙ ap says (same_items (IsReadAsItem parameter_of) (one_is_read parameter_of) x.0 y.0 value x.2 y.2) ∙ sym y.1
same_by (cause_list says) a b chunk_type flags value x y =
    x.1 ∙ ap (says (lowest_bit flags)) (same_items (IsReadAsItem cause_of) (one_is_read cause_of) x.0 y.0 value x.2 y.2) ∙ sym y.1
same_by fields a b chunk_type flags value x y = let same : Some a ≡ Some b = sym x ∙ y in cc same

-- bytes and a value say one chunk
pub one_chunk : SaysOne IsReadByHeader
one_chunk p q bytes value a b = same_by (form_of (slice_index bytes 0)) p q (slice_index bytes 0) (slice_index bytes 1) value a b
