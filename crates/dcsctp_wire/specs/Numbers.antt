-- The numbers of chunks and parameters (RFC 9260, section 3.2).
use Rattle.std.specs.Prelude.{ℕ}

-- ---- chunk types

-- RFC 9260, sections 3.3.1 to 3.3.13
abbrev pub data_type : ℕ
data_type = 0

abbrev pub init_type : ℕ
init_type = 1

abbrev pub init_ack_type : ℕ
init_ack_type = 2

abbrev pub sack_type : ℕ
sack_type = 3

abbrev pub heartbeat_type : ℕ
heartbeat_type = 4

abbrev pub heartbeat_ack_type : ℕ
heartbeat_ack_type = 5

abbrev pub abort_type : ℕ
abort_type = 6

abbrev pub shutdown_type : ℕ
shutdown_type = 7

abbrev pub shutdown_ack_type : ℕ
shutdown_ack_type = 8

abbrev pub error_type : ℕ
error_type = 9

abbrev pub cookie_echo_type : ℕ
cookie_echo_type = 10

abbrev pub cookie_ack_type : ℕ
cookie_ack_type = 11

abbrev pub shutdown_complete_type : ℕ
shutdown_complete_type = 14

-- RFC 8260, sections 2.1 and 2.3.1
abbrev pub i_data_type : ℕ
i_data_type = 64

abbrev pub i_forward_tsn_type : ℕ
i_forward_tsn_type = 194

-- RFC 6525, section 3.1
abbrev pub re_config_type : ℕ
re_config_type = 130

-- RFC 3758, section 3.2
abbrev pub forward_tsn_type : ℕ
forward_tsn_type = 192

-- ---- parameter types

-- RFC 9260, section 3.3.5
abbrev pub heartbeat_info_type : ℕ
heartbeat_info_type = 1

-- RFC 6525, sections 4.1, 4.2 and 4.4
abbrev pub outgoing_ssn_reset_request_type : ℕ
outgoing_ssn_reset_request_type = 13

abbrev pub incoming_ssn_reset_request_type : ℕ
incoming_ssn_reset_request_type = 14

abbrev pub reconfiguration_response_type : ℕ
reconfiguration_response_type = 16

-- RFC 9260, section 3.3.3.1
abbrev pub state_cookie_type : ℕ
state_cookie_type = 7

-- RFC 9653, section 4
abbrev pub zero_checksum_acceptable_type : ℕ
zero_checksum_acceptable_type = 0x8001

abbrev pub supported_extensions_type : ℕ
supported_extensions_type = 0x8008

-- RFC 3758, section 3.1
abbrev pub forward_tsn_supported_type : ℕ
forward_tsn_supported_type = 0xc000

-- ---- codes of error causes

-- RFC 9260, section 3.3.10.2
abbrev pub missing_mandatory_parameter_code : ℕ
missing_mandatory_parameter_code = 2

-- RFC 9260, section 3.3.10.6
abbrev pub unrecognized_chunk_type_code : ℕ
unrecognized_chunk_type_code = 6

-- RFC 9260, section 3.3.10.9
abbrev pub no_user_data_code : ℕ
no_user_data_code = 9

-- RFC 9260, section 3.3.10.10
abbrev pub cookie_received_while_shutting_down_code : ℕ
cookie_received_while_shutting_down_code = 10

-- RFC 9260, section 3.3.10.12
abbrev pub user_initiated_abort_code : ℕ
user_initiated_abort_code = 12

-- RFC 9260, section 3.3.10.13
abbrev pub protocol_violation_code : ℕ
protocol_violation_code = 13
