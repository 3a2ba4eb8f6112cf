-- A list is its stretches, with a letter C between two; no stretch has one.
use Rattle.std.specs.Prelude.{◌≡◌, refl, Bool, true, false, cond, List, [], ◌∷◌, ◌++◌, ℕ, zero, suc, ◌+◌, ◌<◌, length, get_or}
use Rattle.std.proofs.Common.{sym, ap, ◌∙◌, arith}
use Rattle.letter.specs.declared.Gate.{Gate}
use Rattle.letter.specs.declared.Gate.TheVariants.{H1, H2, S1, S2, Cz, Cs}
use Rattle.letter.specs.Gate.{is_cs}
use Rattle.gate.specs.Product.{cs_gates}
use Rattle.crossing.specs.Crossing.{in_front, stretches_of, joined, FewestZ, EachStretch}

is_cs_lem : (g : Gate) → is_cs g ≡ true → g ≡ Cs
is_cs_lem H1 e = cc
is_cs_lem H2 e = cc
is_cs_lem S1 e = cc
is_cs_lem S2 e = cc
is_cs_lem Cz e = cc
is_cs_lem Cs e = refl

joined_in_front : (g : Gate) (ss : List (List Gate)) → joined (in_front g ss) ≡ g ∷ joined ss
joined_in_front g [] = refl
joined_in_front g (s ∷ []) = refl
joined_in_front g (s ∷ t ∷ ss) = refl

-- there is at least one
some : (w : List Gate) → (s : List Gate) × (ss : List (List Gate)) × (stretches_of w ≡ s ∷ ss)
unfolding stretches_of
some [] = ([], [], refl)
some (g ∷ w) = go (is_cs g) (stretches_of w)
  where
    go : (t : Bool) (r : List (List Gate)) → (s : List Gate) × (ss : List (List Gate)) × (cond t ([] ∷ r) (in_front g r) ≡ s ∷ ss)
    go true r = ([], r, refl)
    go false [] = (g ∷ [], [], refl)
    go false (s ∷ ss) = (g ∷ s, ss, refl)

pub joined_stretches : (w : List Gate) → joined (stretches_of w) ≡ w
unfolding stretches_of
joined_stretches [] = refl
joined_stretches (g ∷ w) = go (is_cs g) refl (joined_stretches w)
  where
    after : (r : List (List Gate)) (s : List Gate) (ss : List (List Gate)) → r ≡ s ∷ ss → joined ([] ∷ r) ≡ Cs ∷ joined r
    after [] s ss e = cc
    after (r ∷ rs) s ss e = refl

    go : (t : Bool) → is_cs g ≡ t → joined (stretches_of w) ≡ w → joined (cond t ([] ∷ stretches_of w) (in_front g (stretches_of w))) ≡ g ∷ w
    go true e ih =
        let (s, ss, k) = some w in
        after (stretches_of w) s ss k ∙ ap (λ l. Cs ∷ l) ih ∙ ap (λ x. x ∷ w) (sym (is_cs_lem g e))
    go false e ih = joined_in_front g (stretches_of w) ∙ ap (λ l. g ∷ l) ih

-- one more than there are letters C
pub stretches_number : (w : List Gate) → length (stretches_of w) ≡ cs_gates w + 1
unfolding stretches_of
stretches_number [] = refl
stretches_number (g ∷ w) = go (is_cs g) (stretches_number w)
  where
    longer : (r : List (List Gate)) → 0 < length r → length (in_front g r) ≡ length r
    longer [] h = absurd (omega arith)
    longer (s ∷ r) h = refl

    go : (t : Bool) → length (stretches_of w) ≡ cs_gates w + 1 → length (cond t ([] ∷ stretches_of w) (in_front g (stretches_of w))) ≡ cond t 1 0 + cs_gates w + 1
    go true e = omega arith
    go false e = let l = longer (stretches_of w) (omega arith) in omega arith

-- a list without C is one stretch
one_stretch : (u : List Gate) → cs_gates u ≡ 0 → stretches_of u ≡ u ∷ []
unfolding stretches_of
one_stretch [] n = refl
one_stretch (g ∷ u) n = go (is_cs g) n (one_stretch u)
  where
    go : (t : Bool) → cond t 1 0 + cs_gates u ≡ 0 → (cs_gates u ≡ 0 → stretches_of u ≡ u ∷ []) → cond t ([] ∷ stretches_of u) (in_front g (stretches_of u)) ≡ (g ∷ u) ∷ []
    go true n ih = absurd (omega arith)
    go false n ih = ap (in_front g) (ih (omega arith))

-- what stands before a first letter C
first_stretch : (u w : List Gate) → cs_gates u ≡ 0 → stretches_of (u ++ Cs ∷ w) ≡ u ∷ stretches_of w
unfolding stretches_of
first_stretch [] w n = refl
first_stretch (g ∷ u) w n = go (is_cs g) n (first_stretch u w)
  where
    go : (t : Bool) → cond t 1 0 + cs_gates u ≡ 0 → (cs_gates u ≡ 0 → stretches_of (u ++ Cs ∷ w) ≡ u ∷ stretches_of w)
        → cond t ([] ∷ stretches_of (u ++ Cs ∷ w)) (in_front g (stretches_of (u ++ Cs ∷ w))) ≡ (g ∷ u) ∷ stretches_of w
    go true n ih = absurd (omega arith)
    go false n ih = ap (in_front g) (ih (omega arith))

-- ---- the fewest letters Z in every stretch, from the first and the others

pub each_one : (u : List Gate) → FewestZ u → EachStretch u
each_one u f i h = go (stretches_of u) (one_stretch u f.no_cs) i h
  where
    go : (l : List (List Gate)) → l ≡ u ∷ [] → (i : ℕ) → i < length l → FewestZ (get_or l i [])
    go l e zero h = rw e f
    go l e (suc i) h = let n : length l ≡ 1 = ap length e in absurd (omega arith)

pub each_more : (u w : List Gate) → FewestZ u → EachStretch w → EachStretch (u ++ Cs ∷ w)
each_more u w f r i h = go (stretches_of (u ++ Cs ∷ w)) (first_stretch u w f.no_cs) i h
  where
    go : (l : List (List Gate)) → l ≡ u ∷ stretches_of w → (i : ℕ) → i < length l → FewestZ (get_or l i [])
    go l e zero h = rw e f
    go l e (suc i) h = let n : length l ≡ suc (length (stretches_of w)) = ap length e in rw e (r i (omega arith))
