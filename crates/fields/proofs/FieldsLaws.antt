-- Laws of specs/Fields.antt, over plain variables.
use Rattle.std.specs.Prelude.{◌≡◌, ℕ, zero, suc, ◌/◌, ◌+◌, ◌*◌, ◌%◌, ◌^◌, ◌<◌, ◌≤◌, Bool, true, false, ltb, List, [], ◌∷◌, ◌++◌, map, length, get_or, take, drop, ℤ, pos, negsuc}
use mathlib.Core.Path.{refl, sym, ap, ◌∙◌}
use mathlib.Core.List.{append-nil, append_assoc}
use native.Mathlib.Nat.{mod-eq_of_lt, mod-lt}
use native.Mathlib.Numerals.{add-one}
use native.Mathlib.Omega.{arith}
use borrow.Author.Tests.{ltb-true, ltb-false}
use lib.Bits.{bit_or, or_shifted_r}
use lib.ListN.{length-drop, length-map, get_or-map}
use borrow.Rule.Slice.PartMut.{put_mid}
use lib.Seq.{sets, sets-eq, drop-drop, drop-length, take-suc, length-take-le, get_or-take, get_or-drop}
use mir.Syntax.{w8}
use mir.Val.{SFits, to_z, of_z, bool_byte}
use mir.Facts.{to_z-of_z}
use Rattle.std.specs.Simd.{first_chunks}
use Rattle.laws.proofs.Cases.{ways}
use Rattle.little.proofs.LittleLaws.{sets-append}
use Rattle.common.specs.Bits.{addend, signed}
use Rattle.voice.specs.declared.channel_enum.Voice.{Voice}
use Rattle.fields.specs.Fields.{bit_of, flags_of, byte_of, voice_fields, blocks_of, live_by, pitch_by, envelope_by, channel_by, wave_by, swept_by, noise_by, block, voices_by, from, byte, entry_by}

-- flags: each bit is laid over the ones below it

pub bit_le : (b : Bool) → bit_of b ≤ 1
bit_le true = omega arith
bit_le false = omega arith

as-bit : (b : Bool) {x : ℕ} → x ≡ bool_byte b → x ≡ bit_of b
as-bit true e = e
as-bit false e = e

-- a bit above `n`, which has `k` bits
over : (k : ℕ) (b : Bool) {n m x : ℕ} → n ≡ m → m < 2 ^ k → x ≡ bit_of b → bit_of b * 2 ^ k < 256 → bit_or n (x * 2 ^ k % 256) ≡ bit_of b * 2 ^ k + m
over k b {n} {m} e h p g = rw (e, p, mod-eq_of_lt g) (or_shifted_r (bit_of b) k m h)

pub flags-or : (a b c d e : Bool) {x y z u v : ℕ} → x ≡ bool_byte a → y ≡ bool_byte b → z ≡ bool_byte c → u ≡ bool_byte d → v ≡ bool_byte e →
    bit_or (bit_or (bit_or (bit_or x (y * 2 ^ 1 % 256)) (z * 2 ^ 2 % 256)) (u * 2 ^ 3 % 256)) (v * 2 ^ 4 % 256) ≡ flags_of a b c d e
unfolding flags_of
flags-or a b c d e p q r s t =
    let one : bit_of a ≤ 1 = bit_le a in
    let two : bit_of b ≤ 1 = bit_le b in
    let three : bit_of c ≤ 1 = bit_le c in
    let four : bit_of d ≤ 1 = bit_le d in
    let five : bit_of e ≤ 1 = bit_le e in
    over 4 e (over 3 d (over 2 c (over 1 b (as-bit a p) (omega arith) (as-bit b q) (omega arith)) (omega arith) (as-bit c r) (omega arith)) (omega arith) (as-bit d s) (omega arith)) (omega arith) (as-bit e t) (omega arith)
    ∙ omega arith

-- a modulation entry's byte

addend-low : (e : ℤ) → SFits w8 e → addend e % 256 ≡ byte_of e
unfolding addend byte_of
addend-low (pos e) f = omega (arith, f.sfits)
addend-low (negsuc e) f = omega (arith, f.sfits)

pub byte-of : (e : ℤ) {l r : ℕ} → SFits w8 e → l ≡ addend (to_z w8 (of_z w8 e)) → r ≡ l % 256 → r ≡ byte_of e
byte-of e f p q = rw (q, p, to_z-of_z f) (addend-low e f)

-- the voices' fields, one after the other

blocks-snoc : (vs : List Voice) (v : Voice) → blocks_of (vs ++ (v ∷ [])) ≡ blocks_of vs ++ voice_fields v
unfolding blocks_of
blocks-snoc [] v = append-nil (voice_fields v)
blocks-snoc (x ∷ vs) v = rw (blocks-snoc vs v) (sym (append_assoc (voice_fields x) (blocks_of vs) (voice_fields v)))

pub blocks-length : (vs : List Voice) → length (blocks_of vs) ≡ 19 * length vs
unfolding blocks_of voice_fields
blocks-length [] = refl
blocks-length (v ∷ vs) = omega (arith, blocks-length vs)

pub blocks_more : (l : List ℕ) (vs : List Voice) (i : ℕ) (d : Voice) {m n xs : List ℕ} → m ≡ sets l 199 (blocks_of (take i vs)) →
    i < length vs → xs ≡ voice_fields (get_or vs i d) → n ≡ sets m (199 + 19 * i) xs → n ≡ sets l 199 (blocks_of (take (i + 1) vs))
blocks_more l vs i d e h p q =
    rw (q, p, e, add-one i, take-suc vs i d h, blocks-snoc (take i vs) (get_or vs i d))
    (sets-append l 199 (blocks_of (take i vs)) (voice_fields (get_or vs i d))
    (omega (arith, blocks-length (take i vs), length-take-le i vs (omega arith))))

-- as many stores as the list has elements
pub sets-all : {A : Type 0} (l xs : List A) → length l ≡ length xs → sets l 0 xs ≡ xs
sets-all l xs e =
    let d : drop (length xs) l ≡ [] = rw (← e) (drop-length l) in
    let z : 0 + length xs ≡ length xs = omega arith in
    sets-eq xs l 0 (omega (arith, e)) ∙ rw (z, d) (append-nil xs)

-- a part of the fields, each through a function

module _ {A : Type 0} (g : ℕ → A) (f : List ℕ) (k n : ℕ) where
  pub part_length : k + n ≤ length f → length (map g (take n (drop k f))) ≡ n
  part_length h = length-map (take n (drop k f)) g ∙ length-take-le n (drop k f) (omega (arith, length-drop k f))

  pub part_at : {i : ℕ} {x : A} → i < n → x ≡ g (get_or f (k + i) 0) → x ≡ get_or (map g (take n (drop k f))) i (g 0)
  part_at {i} h p =
      p ∙ ap g (sym (get_or-take n (drop k f) i 0 h ∙ get_or-drop k f i 0)) ∙ sym (get_or-map g (take n (drop k f)) i 0)

-- an entry of the modulation table

signed-fits : (b : ℕ) → b < 256 → SFits w8 (signed b)
unfolding signed
signed-fits b h =
    ways (λ (z : ℤ). SFits w8 z) (ltb b 128) (λ t. record { sfits = omega (arith, ltb-true b 128 t) }) (λ t. record { sfits = omega (arith, ltb-false b 128 t) })

pub signed-at : (f : List ℕ) (k n : ℕ) {i b : ℕ} {z : ℤ} → i < n → b ≡ byte (get_or f (k + i) 0) → z ≡ signed b →
    to_z w8 (of_z w8 z) ≡ get_or (map entry_by (take n (drop k f))) i (entry_by 0)
signed-at f k n {i} {b} h p q =
    part_at entry_by f k n h (rw q (to_z-of_z (signed-fits b (rw p (mod-lt (get_or f (k + i) 0) (omega arith))))) ∙ ap signed p)

-- a channel's values in the fields

chunk-at : (count : ℕ) (s : List ℕ) (k j : ℕ) (d : List ℕ) → k < count → j < 19 → get_or (get_or (first_chunks 19 count s) k d) j 0 ≡ get_or s (19 * k + j) 0
chunk-at zero s k j d h l = absurd (omega arith)
chunk-at (suc count) s zero j d h l = get_or-take 19 s j 0 l ∙ ap (λ (i : ℕ). get_or s i 0) (omega arith)
chunk-at (suc count) s (suc k) j d h l =
    chunk-at count (drop 19 s) k j d (omega arith) l ∙ get_or-drop 19 s (19 * k + j) 0 ∙ ap (λ (i : ℕ). get_or s i 0) (omega arith)

-- the values of a channel are those of its chunk
pub block-at : (f : List ℕ) (k : ℕ) (d : List ℕ) {blocks : List (List ℕ)} → length f ≡ 326 → k < 6 →
    blocks ≡ first_chunks 19 (length (take 114 (drop 199 f)) / 19) (take 114 (drop 199 f)) → (j : ℕ) → j < 19 → get_or (get_or blocks k d) j 0 ≡ block f k j
block-at f k d z h e j l =
    let long : length (take 114 (drop 199 f)) ≡ 114 = length-take-le 114 (drop 199 f) (omega (arith, length-drop 199 f)) in
    rw (e, long)
    (chunk-at 6 (take 114 (drop 199 f)) k j d h l ∙ get_or-take 114 (drop 199 f) (19 * k + j) 0 (omega arith) ∙ get_or-drop 199 f (19 * k + j) 0
    ∙ ap (λ (i : ℕ). get_or f i 0) (omega arith))

-- a voice by its nineteen values

module _ (v w : ℕ → ℕ) (e : (j : ℕ) → j < 19 → v j ≡ w j) where
  same-channel : channel_by v ≡ channel_by w
  unfolding channel_by live_by pitch_by envelope_by
  same-channel =
      rw (e 0 (omega arith), e 1 (omega arith), e 2 (omega arith), e 3 (omega arith), e 4 (omega arith), e 5 (omega arith), e 6 (omega arith), e 7 (omega arith), e 8 (omega arith), e 12 (omega arith), e 13 (omega arith), e 14 (omega arith), e 15 (omega arith), e 16 (omega arith))

  pub same-wave : wave_by v ≡ wave_by w
  unfolding wave_by
  same-wave = rw (same-channel, e 9 (omega arith), e 10 (omega arith))

  pub same-swept : (s : ℕ → ℕ) → swept_by v s ≡ swept_by w s
  unfolding swept_by
  same-swept s = rw (same-channel, e 9 (omega arith), e 10 (omega arith))

  pub same-noise : noise_by v ≡ noise_by w
  unfolding noise_by
  same-noise = rw (same-channel, e 9 (omega arith), e 10 (omega arith), e 17 (omega arith))

pub voices-by : (f : List ℕ) {a b c d e g : Voice} →
    a ≡ wave_by (from f 199) → b ≡ wave_by (from f 218) → c ≡ wave_by (from f 237) → d ≡ wave_by (from f 256) →
    e ≡ swept_by (from f 275) (from f 313) → g ≡ noise_by (from f 294) → a ∷ b ∷ c ∷ d ∷ e ∷ g ∷ [] ≡ voices_by f
unfolding voices_by
voices-by f p q r s t u = rw (p, q, r, s, t, u)

-- a part's values, copied

pub laid-there : (l xs ys : List ℕ) (i k : ℕ) → ys ≡ xs → k ≡ length xs → i + length xs ≤ length l → put_mid i k l ys ≡ sets l i xs
laid-there l xs ys i k e p h = rw (e, p, drop-drop (length xs) i l) (sym (sets-eq xs l i h ∙ append_assoc (take i l) xs (drop (i + length xs) l)))
