-- The state image, in the words of documents 01 and 02: 420 bytes, little-endian.
use Rattle.std.specs.Prelude.{ℕ, zero, suc, cond, not, List, [], ◌∷◌, ◌++◌, length, drop, ◌==◌, nat_lt, slice_index, Ok, Err}
use Rattle.little.specs.Little.{bytes, number, size_of}
use Rattle.refusal.specs.Refusal.{fault, ◌then◌, Answer}
use Rattle.refusal.specs.declared.Refusal.{Refusal}
use Rattle.refusal.specs.declared.Refusal.TheVariants.{Room, ImageSize, ImageHeader, ImageField}
use Rattle.fields.specs.Fields.{fields_of, state_of}
use Rattle.table.specs.Table.{Edition, faulty_at, known_edition, newest}
use Rattle.table.specs.declared.Known.{Known}
use Rattle.table.specs.declared.Known.TheVariants.{First, Second}
use Rattle.vsu.specs.Core.{power_on, unit_answer}
use Rattle.vsu.specs.declared.unit.Vsu.{Vsu}
use Rattle.image.specs.declared.Loaded.{Loaded}

-- 10 and 11: "header differs; field at fault: carries the lowest such offset". "Header 0..15".
abbrev pub refusal_at : ℕ → Refusal
refusal_at offset = cond (nat_lt offset 16) ImageHeader (ImageField offset)

-- The bytes of any edition, and what is at fault in them.

module _ (e : Edition) where
  -- the bytes of the first n fields' values, one after the other
  unfoldable pub bytes_of : List ℕ → ℕ → List ℕ
  bytes_of f zero = []
  bytes_of f (suc n) = bytes_of f n ++ bytes (size_of (e.rows n).width) (slice_index f n)

  unfoldable pub image_of : Vsu → List ℕ
  image_of u = bytes_of (fields_of e u) e.fields

  -- the first n fields' values in bytes
  unfoldable pub values_of : List ℕ → ℕ → List ℕ
  values_of b zero = []
  values_of b (suc n) = values_of b n ++ (number (size_of (e.rows n).width) b (e.rows n).offset ∷ [])

  abbrev pub fields_in : List ℕ → List ℕ
  fields_in b = values_of b e.fields

  -- the lowest fault of the n fields from i on
  unfoldable pub fields_answer : List ℕ → ℕ → ℕ → Answer
  fields_answer f zero i = Ok tt
  fields_answer f (suc n) i = fault (faulty_at e f i) (refusal_at (e.rows i).offset) then fields_answer f n (suc i)

  -- 9, "image not 420 bytes", then 10 and 11
  unfoldable pub edition_answer : List ℕ → Answer
  edition_answer b = fault (not (length b == e.size)) ImageSize then fields_answer (fields_in b) e.fields 0

-- Reading. The u16 at 0 tells the edition: "edition 1 is still read"; what is neither 1 nor 2 breaks the header of edition 2, so that
-- it is "10 for editions other than 1 and 2".

unfoldable pub known_in : List ℕ → Known
known_in b = cond (number 2 b 0 == 1) First Second

abbrev pub edition_in : List ℕ → Edition
edition_in b = known_edition (known_in b)

unfoldable pub read_answer : List ℕ → Answer
read_answer b = edition_answer (edition_in b) b

-- Handed back: "a refused image the power-on state".

unfoldable pub loaded_by : Answer → List ℕ → Loaded
loaded_by (Ok done) f = record { state = state_of f; answer = Ok tt }
loaded_by (Err why) f = record { state = power_on; answer = Err why }

unfoldable pub read_of : List ℕ → Loaded
read_of b = loaded_by (read_answer b) (fields_in (edition_in b) b)

-- Writing, always by the newest edition: "1, then 2". "Images go to the buffer's first 420 bytes."

unfoldable pub image_answer : Vsu → ℕ → Answer
image_answer u room = unit_answer u then fault (nat_lt room newest.size) Room

-- the answer, and what the buffer holds afterwards
pub record ImageGives : Type 0 where
  pub answer : Answer
  pub out : List ℕ

unfoldable pub written_by : Answer → Vsu → List ℕ → ImageGives
written_by (Ok done) u out = record { answer = Ok tt; out = image_of newest u ++ drop newest.size out }
written_by (Err why) u out = record { answer = Err why; out = out }

abbrev pub written_of : Vsu → List ℕ → ImageGives
written_of u out = written_by (image_answer u (length out)) u out
