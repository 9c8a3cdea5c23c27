-- The tables of names. An entry's number is its place in the table, counted from 0.
-- Source: apparmor.d(5), "Capability rules", "Network rules"; capabilities(7); own.
use Rattle.std.specs.Prelude.{ℕ, ◌+◌, ◌-◌, ◌^◌, List, [], ◌∷◌, map, codes, Option, position, nat_le, ◌&&◌, if◌then◌else◌, slice_get, unwrap_or}
use Rattle.std.specs.Str.{bytes_eq}

-- the number of the entry with that name, if there is one
abbrev pub number_in : List (List ℕ) → List ℕ → Option ℕ
number_in table name = position (λ entry. bytes_eq entry name) table

-- the entry of a table of names
abbrev pub entry : List (List ℕ) → ℕ → List ℕ
entry table n = unwrap_or (slice_get table n) []

-- the capital letter of a small one
abbrev pub capital : ℕ → ℕ
capital c = if nat_le 97 c && nat_le c 122 then c - 32 else c

-- the flags of a table's names: each in capital letters, at the bit of its number
unfoldable pub flags_from : ℕ → List (List ℕ) → List (List ℕ × ℕ)
flags_from number [] = []
flags_from number (name ∷ names) = (map capital name, 2 ^ number) ∷ flags_from (number + 1) names

-- capabilities(7), without CAP_, in the order of the numbers that Linux gives them
unfoldable pub capability_names : List (List ℕ)
capability_names =
    codes "chown" ∷ codes "dac_override" ∷ codes "dac_read_search" ∷ codes "fowner" ∷ codes "fsetid" ∷ codes "kill"
    ∷ codes "setgid" ∷ codes "setuid" ∷ codes "setpcap" ∷ codes "linux_immutable" ∷ codes "net_bind_service"
    ∷ codes "net_broadcast" ∷ codes "net_admin" ∷ codes "net_raw" ∷ codes "ipc_lock" ∷ codes "ipc_owner"
    ∷ codes "sys_module" ∷ codes "sys_rawio" ∷ codes "sys_chroot" ∷ codes "sys_ptrace" ∷ codes "sys_pacct"
    ∷ codes "sys_admin" ∷ codes "sys_boot" ∷ codes "sys_nice" ∷ codes "sys_resource" ∷ codes "sys_time"
    ∷ codes "sys_tty_config" ∷ codes "mknod" ∷ codes "lease" ∷ codes "audit_write" ∷ codes "audit_control"
    ∷ codes "setfcap" ∷ codes "mac_override" ∷ codes "mac_admin" ∷ codes "syslog" ∷ codes "wake_alarm"
    ∷ codes "block_suspend" ∷ codes "audit_read" ∷ codes "perfmon" ∷ codes "bpf" ∷ codes "checkpoint_restore" ∷ []

-- the families of sockets (apparmor.d(5), "Network rules")
unfoldable pub family_names : List (List ℕ)
family_names =
    codes "unix" ∷ codes "inet" ∷ codes "ax25" ∷ codes "ipx" ∷ codes "appletalk" ∷ codes "netrom" ∷ codes "bridge"
    ∷ codes "atmpvc" ∷ codes "x25" ∷ codes "inet6" ∷ codes "rose" ∷ codes "netbeui" ∷ codes "security" ∷ codes "key"
    ∷ codes "netlink" ∷ codes "packet" ∷ codes "ash" ∷ codes "econet" ∷ codes "atmsvc" ∷ codes "rds" ∷ codes "sna"
    ∷ codes "irda" ∷ codes "pppox" ∷ codes "wanpipe" ∷ codes "llc" ∷ codes "ib" ∷ codes "mpls" ∷ codes "can"
    ∷ codes "tipc" ∷ codes "bluetooth" ∷ codes "iucv" ∷ codes "rxrpc" ∷ codes "isdn" ∷ codes "phonet"
    ∷ codes "ieee802154" ∷ codes "caif" ∷ codes "alg" ∷ codes "nfc" ∷ codes "vsock" ∷ codes "kcm" ∷ codes "qipcrtr"
    ∷ codes "smc" ∷ codes "xdp" ∷ codes "mctp" ∷ []

-- the types of sockets (apparmor.d(5), "Network rules")
unfoldable pub sock_type_names : List (List ℕ)
sock_type_names =
    codes "stream" ∷ codes "dgram" ∷ codes "seqpacket" ∷ codes "rdm" ∷ codes "raw" ∷ codes "packet" ∷ []
