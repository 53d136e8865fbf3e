-- The numbers of the message types (OpenFlow Switch Specification 1.0.0, section 5.1, `ofp_type`).
use Rattle.std.specs.Prelude.{ℕ}

abbrev pub hello : ℕ
hello = 0

abbrev pub error : ℕ
error = 1

abbrev pub echo_request : ℕ
echo_request = 2

abbrev pub echo_reply : ℕ
echo_reply = 3

abbrev pub vendor : ℕ
vendor = 4

abbrev pub features_request : ℕ
features_request = 5

abbrev pub features_reply : ℕ
features_reply = 6

abbrev pub get_config_request : ℕ
get_config_request = 7

abbrev pub get_config_reply : ℕ
get_config_reply = 8

abbrev pub set_config : ℕ
set_config = 9

abbrev pub packet_in : ℕ
packet_in = 10

abbrev pub flow_removed : ℕ
flow_removed = 11

abbrev pub port_status : ℕ
port_status = 12

abbrev pub packet_out : ℕ
packet_out = 13

abbrev pub flow_mod : ℕ
flow_mod = 14

abbrev pub port_mod : ℕ
port_mod = 15

abbrev pub stats_request : ℕ
stats_request = 16

abbrev pub stats_reply : ℕ
stats_reply = 17

abbrev pub barrier_request : ℕ
barrier_request = 18

abbrev pub barrier_reply : ℕ
barrier_reply = 19

abbrev pub queue_get_config_request : ℕ
queue_get_config_request = 20

abbrev pub queue_get_config_reply : ℕ
queue_get_config_reply = 21
