-- What the programs print, as lists of bytes in ASCII, and the decimal numbers that they take as arguments.
use Rattle.std.specs.Prelude.{cond, List, [], ◌∷◌, ◌++◌, ℕ, ◌+◌, ◌/◌, ◌%◌, ltb}

-- ---- numbers written

abbrev pub digit : ℕ → ℕ
digit n = 48 + n

-- a number below 1000 in decimal, with no zero in front
unfoldable pub decimal : ℕ → List ℕ
decimal n =
    cond (ltb n 10) (digit n ∷ [])
    (cond (ltb n 100) (digit (n / 10) ∷ digit (n % 10) ∷ [])
    (digit (n / 100) ∷ digit (n / 10 % 10) ∷ digit (n % 10) ∷ []))

-- a space before each number
unfoldable pub spaced : List ℕ → List ℕ
spaced [] = []
spaced (n ∷ ns) = 32 ∷ decimal n ++ spaced ns

-- ---- lines

-- a word, numbers and a line feed
abbrev pub line : List ℕ → List ℕ → List ℕ
line word ns = word ++ spaced ns ++ (10 ∷ [])

-- "count t": "The first line is t"
abbrev pub count_word : List ℕ
count_word = 99 ∷ 111 ∷ 117 ∷ 110 ∷ 116 ∷ []

abbrev pub count_line : ℕ → List ℕ
count_line t = line count_word (t ∷ [])

-- "sheet" and its bytes: "the second has the sheet's bytes in decimal"
abbrev pub sheet_word : List ℕ
sheet_word = 115 ∷ 104 ∷ 101 ∷ 101 ∷ 116 ∷ []

abbrev pub sheet_line : List ℕ → List ℕ
sheet_line s = line sheet_word s

-- "loose" and L: "a third line, `loose L`" (document 02, P3)
abbrev pub loose_word : List ℕ
loose_word = 108 ∷ 111 ∷ 111 ∷ 115 ∷ 101 ∷ []

abbrev pub loose_line : ℕ → List ℕ
loose_line l = line loose_word (l ∷ [])

-- "sign" and 0 or 1 (document 02, P9: "its result says which, 0 for M and 1 for −M")
abbrev pub sign_word : List ℕ
sign_word = 115 ∷ 105 ∷ 103 ∷ 110 ∷ []

abbrev pub sign_line : ℕ → List ℕ
sign_line s = line sign_word (s ∷ [])

-- "omega" and the power of ω (document 02, P5)
abbrev pub omega_word : List ℕ
omega_word = 111 ∷ 109 ∷ 101 ∷ 103 ∷ 97 ∷ []

abbrev pub omega_line : ℕ → List ℕ
omega_line p = line omega_word (p ∷ [])

-- "the one line `refused N`"
abbrev pub refused_word : List ℕ
refused_word = 114 ∷ 101 ∷ 102 ∷ 117 ∷ 115 ∷ 101 ∷ 100 ∷ []

abbrev pub refused_line : ℕ → List ℕ
refused_line n = line refused_word (n ∷ [])

-- "order" and the number of states
abbrev pub order_word : List ℕ
order_word = 111 ∷ 114 ∷ 100 ∷ 101 ∷ 114 ∷ []

abbrev pub order_line : ℕ → List ℕ
order_line n = line order_word (n ∷ [])

-- "layers" and how many there are (document 02, P13)
abbrev pub layers_word : List ℕ
layers_word = 108 ∷ 97 ∷ 121 ∷ 101 ∷ 114 ∷ 115 ∷ []

abbrev pub layers_line : ℕ → List ℕ
layers_line n = line layers_word (n ∷ [])

-- "layer" and that of each block
abbrev pub layer_word : List ℕ
layer_word = 108 ∷ 97 ∷ 121 ∷ 101 ∷ 114 ∷ []

abbrev pub layer_line : List ℕ → List ℕ
layer_line ls = line layer_word ls

-- "gates", a space and the letters
abbrev pub gates_word : List ℕ
gates_word = 103 ∷ 97 ∷ 116 ∷ 101 ∷ 115 ∷ 32 ∷ []

abbrev pub gates_line : List ℕ → List ℕ
gates_line letters = gates_word ++ letters ++ (10 ∷ [])

-- the first three lines for a gate list of count t: its letters and L
abbrev pub list_lines : ℕ → List ℕ → ℕ → List ℕ
list_lines t letters l = count_line t ++ gates_line letters ++ loose_line l
