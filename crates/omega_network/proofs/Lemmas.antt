-- The only proofs that crates above may cite.

-- The first element of a list, and replies that are put while another is taken out of its place.
pub use Rattle.omega_network.proofs.Moves.{first_is, free_is, none_is, push_taken, room_same}
-- Elements of a list to which one more is appended.
pub use Rattle.omega_network.proofs.New.{get_last, get_left}
-- The numbers of switches.
pub use Rattle.omega_network.proofs.Switches.{half_of_wire, one_place, place_is, place_within, two_halves}
-- Places that a move does not change.
pub use Rattle.omega_network.proofs.Elsewhere.{down_requests, up_replies}
