-- Document 01, "The trace": numbers "in decimal" and in "capital hexadecimal digits", as bytes of a text.
use Rattle.std.specs.Prelude.{Bool, true, false, cond, List, [], ◌∷◌, ◌++◌, ℕ, ◌+◌, ◌*◌, ◌-◌, ◌/◌, ◌%◌, leb, ltb}

-- how many decimal places are shown at most, and how many numbers these hold
abbrev pub decimal_room : ℕ
decimal_room = 5

abbrev pub decimals : ℕ
decimals = 100000

-- "in decimal": a place is shown where the number reaches it, and the last always. It is the numeral of a number below `decimals`
abbrev pub place_text : (reached : Bool) → ℕ → List ℕ
place_text true d = (48 + d) ∷ []
place_text false d = []

unfoldable pub decimal : ℕ → List ℕ
decimal n =
    place_text (leb 10000 n) (n / 10000 % 10)
    ++ (place_text (leb 1000 n) (n / 1000 % 10)
    ++ (place_text (leb 100 n) (n / 100 % 10)
    ++ (place_text (leb 10 n) (n / 10 % 10)
    ++ place_text true (n % 10))))

-- the number that decimal digits say, after `before`
unfoldable pub value : (before : ℕ) → List ℕ → ℕ
value before [] = before
value before (d ∷ ds) = value (before * 10 + (d - 48)) ds

-- a capital hexadecimal digit: 0 to 9, and A to F for 10 to 15
unfoldable pub digit : ℕ → ℕ
digit d = cond (ltb d 10) (48 + d) (55 + d)

-- "two capital hexadecimal digits" of a byte, "or -- where not driven"
abbrev pub hex_room : ℕ
hex_room = 2

abbrev pub hex_text : ℕ → List ℕ
hex_text n = digit (n / 16) ∷ digit (n % 16) ∷ []

abbrev pub dash : ℕ
dash = 45

abbrev pub dashes : List ℕ
dashes = dash ∷ dash ∷ []
