-- Document 01, "The trace": the fields of a line that `mmurun` prints, byte for byte, and the most bytes of each.
use Rattle.std.specs.Prelude.{Bool, true, false, List, [], ◌∷◌, ◌++◌, ℕ, ◌+◌, eqb, length}
use Rattle.trace_header.specs.Header.{mark, format1}
use Rattle.text.specs.Digits.{decimal_room, decimal, place_text, hex_room, hex_text, dashes}

-- the bytes of the text that part its fields and its lines: "one space", "a line feed"
abbrev pub space : ℕ
space = 32

abbrev pub feed : ℕ
feed = 10

-- "X with the refusal number joined to it, as X4, if refused": a kind's letter, and its number unless that is 0
abbrev pub joined : (plain : Bool) → (number : ℕ) → List ℕ
joined true number = []
joined false number = decimal number

abbrev pub kind_room : ℕ
kind_room = 1 + decimal_room

unfoldable pub kind_text : (letter number : ℕ) → List ℕ
kind_text letter number = letter ∷ joined (eqb number 0) number

-- "number in decimal from 0; kind", and the space after each
abbrev pub opening_room : ℕ
opening_room = decimal_room + 1 + kind_room + 1

unfoldable pub opening : (n letter number : ℕ) → List ℕ
opening n letter number = decimal n ++ (space ∷ kind_text letter number ++ (space ∷ []))

-- "address lines A23 to A8 as four capital hexadecimal digits, or ---- where not driven"
abbrev pub address_room : ℕ
address_room = hex_room + hex_room

unfoldable pub address_text : (driven : Bool) → (high low : ℕ) → List ℕ
address_text true high low = hex_text high ++ hex_text low
address_text false high low = dashes ++ dashes

-- "as 0 or 1"
abbrev pub bit_text : Bool → ℕ
bit_text true = 49
bit_text false = 48

-- "data byte the unit drives as two capital hexadecimal digits, or -- where not driven"
unfoldable pub byte_text : (driven : Bool) → ℕ → List ℕ
byte_text true byte = hex_text byte
byte_text false byte = dashes

-- "SUP as 0 or 1; request after the cycle as 0 or 1; data byte", and the space after each
abbrev pub signals_room : ℕ
signals_room = 1 + 1 + 1 + 1 + hex_room + 1

unfoldable pub signals : (sup request drives : Bool) → (byte : ℕ) → List ℕ
signals sup request drives byte =
    bit_text sup ∷ space ∷ bit_text request ∷ space ∷ byte_text drives byte ++ (space ∷ [])

-- ticket 5: "`mmurun` prints it in decimal as a seventh field"; "Every line ends in a line feed."
abbrev pub ending_room : ℕ
ending_room = decimal_room + 1

unfoldable pub ending : (distance : ℕ) → List ℕ
ending distance = decimal distance ++ (feed ∷ [])

-- "First line: mark, version, count in decimal, one space between"
abbrev pub mark_text : List ℕ
mark_text = mark ++ (space ∷ place_text true format1.version ++ (space ∷ []))

abbrev pub mark_room : ℕ
mark_room = length mark_text

unfoldable pub head_text : (count : ℕ) → List ℕ
head_text count = mark_text ++ (decimal count ++ (feed ∷ []))

-- "A refused trace prints one line, as X6, and nothing else."
unfoldable pub refusal_text : (number : ℕ) → List ℕ
refusal_text number = kind_text 88 number ++ (feed ∷ [])
