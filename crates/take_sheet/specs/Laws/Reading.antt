-- An input whose bytes are known, read on a part of 65,536 bytes at a time.
use Rattle.std.specs.Prelude.{◌≡◌, List, [], ◌∷◌, ◌++◌, ℕ, ◌+◌, ◌*◌, ◌^◌, ◌≤◌, ◌<◌, Option, Some, None, IfSome, length}
use Rattle.std.proofs.Common.{◌⊎◌, inl, inr, refl, sym, ap, subst, ◌∙◌, append_assoc, append-nil, arith, length-append}
use Rattle.std.specs.Io.KnownBytes.{Consumes, IsAtEnd}
use Rattle.std.proofs.lemmas.Bool.{cases_lt}
use Rattle.take_sheet.specs.Output.{last_two}
use Rattle.take_sheet.specs.Laws.Last.{last_append}

-- so many parts were read of the bytes xs, or all of them, and the last two bytes that are kept are those of the old bytes and these
pub record ReadOn (xs : List ℕ) (input : Option (List ℕ)) (old new : List ℕ) (parts : ℕ) : Type 0 where
  pub bytes : List ℕ
  pub rest : List ℕ
  pub left : input ≡ Some rest
  pub read : xs ≡ bytes ++ rest
  pub last : last_two new ≡ last_two (old ++ bytes)
  pub far : 0 < length rest → 65536 * parts ≤ length bytes

pub read_start : (input : Option (List ℕ)) (old : List ℕ) → IfSome input (λ xs. ReadOn xs input old old 0)
read_start None old = tt
read_start (Some xs) old = record { bytes = []; rest = xs; left = refl; read = refl; last = sym (ap last_two (append-nil old)); far = λ h. omega arith }

module _ (old mid new more : List ℕ) (parts : ℕ) (h : 2 ≤ length old) (k : 2 ≤ length mid) (e : last_two new ≡ last_two (mid ++ more)) where
  next : (xs : List ℕ) (b c : Option (List ℕ)) → ReadOn xs b old mid parts → Consumes b c more → (length more < 65536 → IsAtEnd c) → ReadOn xs c old new (parts + 1)
  next xs b c s r f = goes c (subst (λ b. Consumes b c more) s.left r) f
    where
      goes : (c : Option (List ℕ)) → Consumes (Some s.rest) c more → (length more < 65536 → IsAtEnd c) → ReadOn xs c old new (parts + 1)
      goes None r f = absurd r
      goes (Some ys) r f = record {
        bytes = s.bytes ++ more;
        rest = ys;
        left = refl;
        read = s.read ∙ ap (λ l. s.bytes ++ l) r ∙ sym (append_assoc s.bytes more ys);
        last = e ∙ last_append mid (old ++ s.bytes) more k (let l = length-append old s.bytes in omega arith) s.last ∙ ap last_two (append_assoc old s.bytes more);
        far = λ p. far p (cases_lt (length more) 65536);
      }
        where
          far : 0 < length ys → (length more < 65536) ⊎ (65536 ≤ length more) → 65536 * (parts + 1) ≤ length (s.bytes ++ more)
          far p (inl q) = let z = ap length (f q) in absurd (omega arith)
          far p (inr q) =
              let l = ap length r in
              let m = length-append more ys in
              let n = length-append s.bytes more in
              let o = s.far (omega arith) in
              omega arith

  pub read_next : (a b c : Option (List ℕ)) → IfSome a (λ xs. ReadOn xs b old mid parts) → Consumes b c more → (length more < 65536 → IsAtEnd c) → IfSome a (λ xs. ReadOn xs c old new (parts + 1))
  read_next None b c s r f = tt
  read_next (Some xs) b c s r f = next xs b c s r f

all_read : (xs : List ℕ) (b : Option (List ℕ)) (old new : List ℕ) (parts : ℕ) (s : ReadOn xs b old new parts) → s.rest ≡ [] → last_two new ≡ last_two (old ++ xs)
all_read xs b old new parts s e = s.last ∙ ap (λ l. last_two (old ++ l)) (sym (s.read ∙ ap (λ l. s.bytes ++ l) e ∙ append-nil s.bytes))

-- nothing more comes
pub read_ended : (a b c : Option (List ℕ)) (old new more : List ℕ) (parts : ℕ) → IfSome a (λ xs. ReadOn xs b old new parts) → Consumes b c more → length more ≡ 0 → IsAtEnd c
    → IfSome a (λ xs. length xs < 2 ^ 64 → last_two new ≡ last_two (old ++ xs))
read_ended None b c old new more parts s r z e = tt
read_ended (Some xs) b c old new more parts s r z e = λ h. all_read xs b old new parts s (none c more (subst (λ b. Consumes b c more) s.left r) z e)
  where
    none : (c : Option (List ℕ)) (more : List ℕ) → Consumes (Some s.rest) c more → length more ≡ 0 → IsAtEnd c → s.rest ≡ []
    none None more r z e = absurd r
    none (Some ys) [] r z e = r ∙ e
    none (Some ys) (x ∷ more) r z e = absurd (omega arith)

-- the last turn: so many bytes no input has
pub read_far : (a b : Option (List ℕ)) (old new : List ℕ) (parts : ℕ) → 2 ^ 48 ≤ parts → IfSome a (λ xs. ReadOn xs b old new parts)
    → IfSome a (λ xs. length xs < 2 ^ 64 → last_two new ≡ last_two (old ++ xs))
read_far None b old new parts f s = tt
read_far (Some xs) b old new parts f s = λ h. all_read xs b old new parts s (none h s.rest (ap length s.read ∙ length-append s.bytes s.rest) s.far)
  where
    none : length xs < 2 ^ 64 → (rest : List ℕ) → length xs ≡ length s.bytes + length rest → (0 < length rest → 65536 * parts ≤ length s.bytes) → rest ≡ []
    none h [] e far = refl
    none h (y ∷ ys) e far = let g = far (omega arith) in absurd (omega arith)
