-- What a call answers: a value, or a refusal, whose number documents 01 and 02 give: "The answer is the count or the refusal's number, never both".
use Rattle.std.specs.Prelude.{◌≡◌, ℕ, ◌≤◌, Result, Ok, Err}
use Rattle.refusal.specs.declared.Refusal.{Refusal}
use Rattle.refusal.specs.declared.Refusal.TheVariants as refusal

-- a refusal's number
abbrev pub number : Refusal → ℕ
number refusal.FileLength = 1
number refusal.FileExponent = 2
number refusal.Entry = 3
number refusal.NotOrthogonal = 4
number refusal.NotProper = 5
number refusal.Buffer = 6
number refusal.ListLength = 7
number refusal.Letter = 8
number refusal.ProductExponent = 9
number refusal.SheetLength = 10
number refusal.SheetByte = 11
number refusal.NotClifford = 12
number refusal.NotCanonical = 13
number refusal.Order = 14
number refusal.SheetSign = 15
number refusal.SheetCount = 16
number refusal.UnitaryLength = 17
number refusal.UnitaryEntry = 18
number refusal.NotUnitary = 19
number refusal.Trailer = 20
number refusal.Offsets = 21
number refusal.SheetNumber = 22
number refusal.Line = 23
number refusal.ProgramLength = 24
number refusal.Qubits = 25

-- an answer with the number in place of the refusal. The promises use it
abbrev pub numbered : {A : Type 0} → Result A Refusal → Result A ℕ
numbered (Ok a) = Ok a
numbered (Err r) = Err (number r)

-- the number of the refusal that is answered, 0 where there is none
abbrev pub refusal_of : {A : Type 0} → Result A ℕ → ℕ
refusal_of (Ok a) = 0
refusal_of (Err n) = n

-- the number n is answered as the refusal or, where n is 0, a value of which P holds
abbrev pub RefusedOr : {A : Type 0} → ℕ → (A → Type 0) → Result A ℕ → Type 0
RefusedOr n P (Ok a) = (n ≡ 0) × P a
RefusedOr n P (Err e) = (e ≡ n) × (1 ≤ n)
