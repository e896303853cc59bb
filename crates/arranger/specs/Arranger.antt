-- "The arranger program reorders writes due at one cycle, and its author wants to know when that is harmless."
use Rattle.std.specs.Prelude.{◌≡◌, ℕ, ◌+◌, ◌-◌, ◌*◌, ◌%◌, ◌<◌, Bool, true, false, cond, not, ◌&&◌, ◌||◌, ◌==◌, nat_lt}
use Rattle.common.specs.Bits.{bits, bit}
use Rattle.voice.specs.declared.channel_enum.Kind.{Kind}
use Rattle.voice.specs.declared.channel_enum.Kind.TheVariants as kinds
use Rattle.vsu.specs.Core.{decode_of, power_on, voice_at, write}
use Rattle.vsu.specs.declared.unit.Register.{Register}
use Rattle.vsu.specs.declared.unit.Register.TheVariants.{Wave, Modulation, Channel, Stop, Nothing}
use Rattle.vsu.specs.declared.unit.Vsu.{Vsu}
use Rattle.arranger.specs.declared.Lead.{Lead}
use Rattle.arranger.specs.declared.Lead.TheVariants.{PowerOn, Filled, Playing}

-- Either order of two writes, a byte b to address a and a byte d to address c, gives one state.
abbrev pub Exchanged : ℕ → ℕ → ℕ → ℕ → Vsu → Type 0
Exchanged a b c d u = write c d (write a b u) ≡ write a b (write c d u)

-- "Channels 0 to 3 are wave, 4 wave with sweep, 5 noise": no other rule of range is asked for.

abbrev pub is_kind : ℕ → Kind → Bool
is_kind k (kinds.Wave bank position) = nat_lt k 4
is_kind k (kinds.Swept bank position sweep) = k == 4
is_kind k (kinds.Noise shift tap output) = k == 5

pub record OfKinds (u : Vsu) : Type 0 where
  pub kinds : (k : ℕ) → k < 6 → is_kind k (voice_at k u.voices).kind ≡ true

-- The bits of a byte that channel k, 0 to 5, keeps of a write at an offset: those that 01 names there. What is no register keeps none.
unfoldable pub kept : ℕ → ℕ → ℕ → ℕ
kept k offset b =
    cond (offset == 0x00) (bits 7 1 b * 128 + bits 0 6 b)
    (cond (offset == 0x04) b
    (cond (offset == 0x08) b
    (cond (offset == 0x0C) (bits 0 3 b)
    (cond (offset == 0x10) b
    (cond (offset == 0x14) (cond (nat_lt k 4) (bits 0 2 b) (bits 4 3 b * 16 + bits 0 2 b))
    (cond (offset == 0x18) (cond (nat_lt k 5) (bits 0 3 b) 0) (cond (offset == 0x1C) (cond (k == 4) b 0) 0)))))))

-- May two writes be exchanged? A table, by the register of the one, then that of the other.

-- "byte mod 64. Dropped while any channel plays.": not beside what may start or stop one
unfoldable pub beside_wave : ℕ → ℕ → Register → ℕ → Bool
beside_wave at b (Wave to) d = not (at == to) || b % 64 == d % 64
beside_wave at b (Modulation to) d = true
beside_wave at b (Channel k offset) d = not (offset == 0x00)
beside_wave at b Stop d = not (bit 0 d)
beside_wave at b Nothing d = true

-- "Dropped while channel 5 (index 4) plays."
unfoldable pub beside_modulation : ℕ → ℕ → Register → ℕ → Bool
beside_modulation at b (Wave to) d = true
beside_modulation at b (Modulation to) d = not (at == to) || b == d
beside_modulation at b (Channel k offset) d = not (k == 4 && offset == 0x00)
beside_modulation at b Stop d = not (bit 0 d)
beside_modulation at b Nothing d = true

-- two bytes for one register: the later one stays; beside the stop register: not what starts the channel
unfoldable pub beside_channel : ℕ → ℕ → ℕ → Register → ℕ → Bool
beside_channel k offset b (Wave to) d = not (offset == 0x00)
beside_channel k offset b (Modulation to) d = not (k == 4 && offset == 0x00)
beside_channel k offset b (Channel j place) d = not (k == j && offset == place) || kept k offset b == kept k offset d
beside_channel k offset b Stop d = not (offset == 0x00 && bit 7 b && bit 0 d)
beside_channel k offset b Nothing d = true

-- "bit 0 set stops all six; else nothing"
unfoldable pub beside_stop : ℕ → Register → ℕ → Bool
beside_stop b (Wave to) d = not (bit 0 b)
beside_stop b (Modulation to) d = not (bit 0 b)
beside_stop b (Channel k offset) d = not (offset == 0x00 && bit 7 d && bit 0 b)
beside_stop b Stop d = true
beside_stop b Nothing d = true

unfoldable pub beside : Register → ℕ → Register → ℕ → Bool
beside (Wave at) b r d = beside_wave at b r d
beside (Modulation at) b r d = beside_modulation at b r d
beside (Channel k offset) b r d = beside_channel k offset b r d
beside Stop b r d = beside_stop b r d
beside Nothing b r d = true

abbrev pub may_exchange : ℕ → ℕ → ℕ → ℕ → Bool
may_exchange a b c d = beside (decode_of a) b (decode_of c) d

-- Where they may not, a state on which the order shows: power-on, or what one or two writes make of it.

-- may be dropped, while a channel plays
unfoldable pub dropped : Register → Bool
dropped (Wave at) = true
dropped (Modulation at) = true
dropped (Channel k offset) = false
dropped Stop = false
dropped Nothing = false

-- another byte where the one at a goes; and a channel plays, if the write at c doesn't start one: that of c, or channel 5 beside the stop
-- register
unfoldable pub lead_to : ℕ → ℕ → ℕ → ℕ → Lead
lead_to a b c d =
    cond (c == 0x580) (Playing a (255 - b) 0x500) (cond (bit 7 d) (Filled a (255 - b)) (Playing a (255 - b) c))

unfoldable pub lead_of : ℕ → ℕ → ℕ → ℕ → Lead
lead_of a b c d =
    cond (dropped (decode_of a)) (cond (dropped (decode_of c)) PowerOn (lead_to a b c d))
    (cond (dropped (decode_of c)) (lead_to c d a b) PowerOn)

unfoldable pub led : Lead → Vsu
led PowerOn = power_on
led (Filled a b) = write a b power_on
led (Playing a b start) = write start 0x80 (write a b power_on)

abbrev pub worked : ℕ → ℕ → ℕ → ℕ → Vsu
worked a b c d = led (lead_of a b c d)
