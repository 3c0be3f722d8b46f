-- Where a debugger is awaited.
use Rattle.std.specs.Prelude.{ℕ, List, [], ◌∷◌, ◌++◌, codes}
use Rattle.std.specs.Fmt.{decimal}
use Rattle.std.specs.declared.net.ip_addr.IpAddr.{IpAddr}
use Rattle.std.specs.declared.net.ip_addr.IpAddr.TheVariants as ip
use Rattle.std.specs.Net.Addr.{ipv4_octets}

-- the four numbers of an address of IPv4, the highest first
abbrev pub octets_of : IpAddr → List ℕ
octets_of (ip.V4 address) = ipv4_octets address
octets_of (ip.V6 address) = []

-- `listening PORT`, which says where
unfoldable pub listening_line : (port : ℕ) → List ℕ
listening_line port = codes "listening " ++ decimal port ++ 10 ∷ []
