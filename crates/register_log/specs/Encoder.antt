-- The bytes of a log, from its writes and its length L, in document 01's words: what reading takes apart, put together.
use Rattle.std.specs.Prelude.{ℕ, List, [], ◌∷◌, ◌++◌, length}
use Rattle.little.specs.Little.{bytes}
use Rattle.register_log.specs.Log.{Layout}
use Rattle.register_log.specs.declared.Write.{Write}

-- "u16 edition 1, u16 header length 16, u32 count, u32 entry offset 16, u32 length L in cycles"
unfoldable pub header_bytes : Layout → ℕ → ℕ → List ℕ
header_bytes l count cycles =
    bytes 2 l.edition ++ (bytes 2 l.header ++ (bytes 4 count ++ (bytes 4 l.header ++ bytes l.due cycles)))

-- "Entry 8: u32 due cycle, u16 address, byte, zero."
unfoldable pub entry_bytes : Layout → Write → List ℕ
entry_bytes l w = bytes l.due w.due ++ (bytes 2 w.address ++ (w.byte ∷ 0 ∷ []))

unfoldable pub entries_bytes : Layout → List Write → List ℕ
entries_bytes l [] = []
entries_bytes l (w ∷ ws) = entry_bytes l w ++ entries_bytes l ws

unfoldable pub log_of : Layout → List Write → ℕ → List ℕ
log_of l ws cycles = header_bytes l (length ws) cycles ++ entries_bytes l ws
