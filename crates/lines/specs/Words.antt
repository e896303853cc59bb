-- What a line begins with, and the numbers that people type.
use Rattle.std.specs.Prelude.{ℕ, suc, ◌+◌, ◌*◌, ◌-◌, Bool, cond, ◌&&◌, ◌||◌, ◌≡◌, List, [], ◌∷◌, eqb, leb, ltb, get_or, length, take, drop, Option, Some, None}

-- a line begins with a word
abbrev pub Begins : List ℕ → List ℕ → Type 0
Begins line word = take (length word) line ≡ word

-- where the first space (32) is; the end where there is none
unfoldable pub space_of : List ℕ → ℕ
space_of [] = 0
space_of (b ∷ bs) = cond (eqb b 32) 0 (suc (space_of bs))

abbrev pub within : ℕ → ℕ → ℕ → Bool
within low high b = leb low b && leb b high

-- the value of 0 to 9 (48 to 57), A to F (65 to 70) and a to f (97 to 102); 16 for any other byte
unfoldable pub digit_of : ℕ → ℕ
digit_of b = cond (within 48 57 b) (b - 48) (cond (within 65 70 b) (b - 55) (cond (within 97 102 b) (b - 87) 16))

-- the number that digits to a base go on to make; none where a byte is no such digit or the number is above 4,294,967,295
unfoldable pub read_on : ℕ → ℕ → List ℕ → Option ℕ
read_on base n [] = Some n
read_on base n (b ∷ bs) =
    cond (ltb (digit_of b) base && leb (base * n + digit_of b) 4294967295) (read_on base (base * n + digit_of b) bs) None

-- 1 to `most` digits
abbrev pub digits_of : ℕ → ℕ → List ℕ → Option ℕ
digits_of base most text = cond (eqb (length text) 0 || ltb most (length text)) None (read_on base 0 text)

-- "1 to 10 decimal digits up to 4,294,967,295 (leading zeros allowed)"
abbrev pub decimal_of : List ℕ → Option ℕ
decimal_of text = digits_of 10 10 text

-- begins with 0x (48, 120)
unfoldable pub marks_hex : List ℕ → Bool
marks_hex text = eqb (get_or text 0 0) 48 && eqb (get_or text 1 0) 120

-- "or `0x` and 1 to 8 hex digits of either case"
unfoldable pub number_of : List ℕ → Option ℕ
number_of text = cond (marks_hex text) (digits_of 16 8 (drop 2 text)) (decimal_of text)
