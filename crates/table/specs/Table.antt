-- "One table of image fields gives each field's offset, width and largest value; tap and output have their own rules besides."
use Rattle.std.specs.Prelude.{ℕ, ◌+◌, ◌-◌, ◌*◌, ◌/◌, ◌%◌, Bool, false, cond, not, ◌||◌, List, [], ◌∷◌, ◌++◌, eqb, ltb, get_or, drop, length}
use Rattle.little.specs.declared.Width.{Width}
use Rattle.little.specs.declared.Width.TheVariants.{U8, U16, U32}
use Rattle.voice.specs.ChannelEnum.{is_tap}
use Rattle.table.specs.declared.Block.{Block}
use Rattle.table.specs.declared.Block.TheVariants.{Edition1, Edition2, Header, Sample, Entry, Wave, Noise, Sweep, Zero, Mutes}
use Rattle.table.specs.declared.Cell.{Cell}
use Rattle.table.specs.declared.Known.{Known}
use Rattle.table.specs.declared.Known.TheVariants.{First, Second}
use Rattle.table.specs.declared.Own.{Own}
use Rattle.table.specs.declared.Own.TheVariants.{None, Exactly, Tap, LowestBit}
use Rattle.table.specs.declared.Part.{Part}
use Rattle.table.specs.declared.Row.{Row}

-- The fields of each part, as cells: offset in the part, width, largest value.

abbrev pub offset_in : Cell → ℕ
offset_in c = c.0

abbrev pub width_in : Cell → Width
width_in c = c.1

abbrev pub most_in : Cell → ℕ
most_in c = c.2

-- "u16 edition 1"
abbrev pub number1 : List Cell
number1 = (0, U16, 1) ∷ []

-- 02 (v): "Image edition 2"
abbrev pub number2 : List Cell
number2 = (0, U16, 2) ∷ []

-- the header's other numbers, at 2: "u16 header length 16, u32 total 420, u16 waves 5, u16 channels 6, u16 channel offset 208, u16 sweep
-- offset 400"
abbrev pub header : List Cell
header = (0, U16, 16) ∷ (2, U32, 420) ∷ (6, U16, 5) ∷ (8, U16, 6) ∷ (10, U16, 208) ∷ (12, U16, 400) ∷ []

-- "Waves at 16 (5 × 32)", "wave samples 0..63"
abbrev pub sample : List Cell
sample = (0, U8, 63) ∷ []

-- "modulation at 176": a byte of any value, signed when it is read
abbrev pub entry : List Cell
entry = (0, U8, 255) ∷ []

-- "Channel block, 32 bytes: +0 flags (auto-stop, play, up, envelope on, envelope loop), +1 live interval, +2 its counter, +3 left,
-- +4 right, +5 level, +6 envelope interval, +7 reload, +8 envelope step, +9 bank or tap, +10 position or output, +11 zero, +12 u16
-- frequency, +14 u16 its counter, +16 u32 live tick, +20 u32 tick, +24 u32 envelope tick, +28 u16 shift (zero for waves), +30 u16
-- zero". "live interval and its counter 0..31; live tick 0..76,804; volumes, level, reload 0..15; frequencies and frequency counter
-- 0..2047; tick 0..3 or 0..39; envelope interval and step 0..7, tick 0..307,218; bank 0..7; positions and modulation index 0..31;
-- shift 0..32,767"; five flags make 31 at most
abbrev pub channel : ℕ → ℕ → ℕ → ℕ → List Cell
channel ninth tenth tick shift =
    (0, U8, 31) ∷ (1, U8, 31) ∷ (2, U8, 31) ∷ (3, U8, 15) ∷ (4, U8, 15) ∷ (5, U8, 15) ∷ (6, U8, 7) ∷ (7, U8, 15) ∷ (8, U8, 7) ∷ (9, U8, ninth)
    ∷ (10, U8, tenth) ∷ (11, U8, 0) ∷ (12, U16, 2047) ∷ (14, U16, 2047) ∷ (16, U32, 76804) ∷ (20, U32, tick) ∷ (24, U32, 307218) ∷ (28, U16, shift)
    ∷ (30, U16, 0) ∷ []

abbrev pub wave : List Cell
wave = channel 7 31 3 0

abbrev pub noise : List Cell
noise = channel 14 1 39 32767

-- "Sweep: +0 flags (enable, loop, modulate, slow, up), +1 interval, +2 shift, +3 interval counter, +4 u32 step counter, +8 index,
-- +9 zero, +10, +12, +14 u16 last written, current, next. Output counter u16 at 416". "sweep shift and interval 0..7, interval counter
-- 0..6, step counter 0..153,608; output counter 0..479"
abbrev pub sweep : List Cell
sweep =
    (0, U8, 31) ∷ (1, U8, 7) ∷ (2, U8, 7) ∷ (3, U8, 6) ∷ (4, U32, 153608) ∷ (8, U8, 31) ∷ (9, U8, 0) ∷ (10, U16, 2047) ∷ (12, U16, 2047)
    ∷ (14, U16, 2047) ∷ (16, U16, 479) ∷ []

-- "u16 zero at 418"
abbrev pub zeros : List Cell
zeros = (0, U16, 0) ∷ []

-- 02 (v): "the bits at byte 418, range 0 to 63, byte 419 zero"
abbrev pub mutes : List Cell
mutes = (0, U8, 63) ∷ (1, U8, 0) ∷ []

abbrev pub no_cell : Cell
no_cell = (0, U8, 0)

abbrev pub cells_of : Block → List Cell
cells_of Edition1 = number1
cells_of Edition2 = number2
cells_of Header = header
cells_of Sample = sample
cells_of Entry = entry
cells_of Wave = wave
cells_of Noise = noise
cells_of Sweep = sweep
cells_of Zero = zeros
cells_of Mutes = mutes

unfoldable pub cell_at : Block → ℕ → Cell
cell_at block i = get_or (cells_of block) i no_cell

-- "tap and output have their own rules besides"; so has a header's number
unfoldable pub own_of : Block → ℕ → Own
own_of Edition1 i = Exactly
own_of Edition2 i = Exactly
own_of Header i = Exactly
own_of Sample i = None
own_of Entry i = None
own_of Wave i = None
own_of Noise i = cond (eqb i 9) Tap (cond (eqb i 10) LowestBit None)
own_of Sweep i = None
own_of Zero i = None
own_of Mutes i = None

-- The numbers of the parts' first fields, counted in rising order of offsets; a channel has 19 fields.

abbrev pub waves_from : ℕ
waves_from = 7

abbrev pub modulation_from : ℕ
modulation_from = 167

abbrev pub channel_fields : ℕ
channel_fields = 19

abbrev pub channel_from : ℕ → ℕ
channel_from k = 199 + channel_fields * k

abbrev pub sweep_from : ℕ
sweep_from = 313

abbrev pub output_field : ℕ
output_field = 323

-- zero in edition 1
abbrev pub mutes_field : ℕ
mutes_field = 324

-- A part: the number of its first field, its offset, its size, what it is made of; it comes again until the next one begins.

abbrev pub first_field : Part → ℕ
first_field p = p.0

abbrev pub part_offset : Part → ℕ
part_offset p = p.1

abbrev pub part_size : Part → ℕ
part_size p = p.2

abbrev pub made_of : Part → Block
made_of p = p.3

abbrev pub cell_count : Part → ℕ
cell_count p = length (cells_of (made_of p))

-- The same in every edition: the rest of the header; "Waves at 16 (5 × 32), modulation at 176"; channel blocks at 208; sweep at 400.
abbrev pub common_parts : List Part
common_parts =
    (1, 2, 14, Header) ∷ (waves_from, 16, 1, Sample) ∷ (modulation_from, 176, 1, Entry) ∷ (channel_from 0, 208, 32, Wave)
    ∷ (channel_from 5, 368, 32, Noise) ∷ (sweep_from, 400, 18, Sweep) ∷ []

-- an edition's parts: its number, the common ones, what its last two bytes hold
abbrev pub parts_of : Known → List Part
parts_of First = (0, 0, 2, Edition1) ∷ (common_parts ++ ((mutes_field, 418, 2, Zero) ∷ []))
parts_of Second = (0, 0, 2, Edition2) ∷ (common_parts ++ ((mutes_field, 418, 2, Mutes) ∷ []))

abbrev pub field_count : Known → ℕ
field_count First = 325
field_count Second = 326

-- the last part that begins no later than a field
unfoldable pub part_in : ℕ → Part → List Part → Part
part_in field p [] = p
part_in field p (q ∷ qs) = cond (ltb field (first_field q)) p (part_in field q qs)

abbrev pub no_part : Part
no_part = (0, 0, 0, Edition1)

unfoldable pub part_of : List Part → ℕ → Part
part_of parts field = part_in field (get_or parts 0 no_part) (drop 1 parts)

unfoldable pub row_in : ℕ → Part → Row
row_in field p =
    let n : ℕ = field - first_field p in
    let i : ℕ = n % cell_count p in
    let c : Cell = cell_at (made_of p) i in
    record {
      offset = part_offset p + part_size p * (n / cell_count p) + offset_in c;
      width = width_in c;
      most = most_in c;
      own = own_of (made_of p) i;
    }

-- a field by its number
abbrev pub row_at : List Part → ℕ → Row
row_at parts field = row_in field (part_of parts field)

-- An edition of the image: how many fields it has, its size in bytes, the number of the noise's shift, and its fields.

pub record Edition : Type 0 where
  pub fields : ℕ
  pub size : ℕ
  pub shift : ℕ
  pub rows : ℕ → Row

abbrev pub known_edition : Known → Edition
known_edition k = record { fields = field_count k; size = 420; shift = channel_from 5 + 17; rows = row_at (parts_of k) }

abbrev pub image1 : Edition
image1 = known_edition First

abbrev pub image2 : Edition
image2 = known_edition Second

-- what is written
abbrev pub newest : Edition
newest = image2

-- Own rules. `Exactly`, of a header's number: not below its largest value either. `Tap`: "tap one of the eight". `LowestBit`: "Output
-- (378) is compared with the lowest bit of byte 396", that of the shift.

unfoldable pub broken_by : Own → ℕ → ℕ → ℕ → Bool
broken_by None most shift value = false
broken_by Exactly most shift value = ltb value most
broken_by Tap most shift value = not (is_tap value)
broken_by LowestBit most shift value = not (eqb value (shift % 2))

unfoldable pub field_faulty : ℕ → Row → ℕ → Bool
field_faulty shift r value = ltb r.most value || broken_by r.own r.most shift value

-- whether an edition's field i is at fault in the values f
abbrev pub faulty_at : Edition → List ℕ → ℕ → Bool
faulty_at e f i = field_faulty (get_or f e.shift 0) (e.rows i) (get_or f i 0)
