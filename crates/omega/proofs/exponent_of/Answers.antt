-- Each power is its own case; a number that is none of the eight passes none of the definition's tests.
use borrow.Author.Tests.{ne_eqb}
use Rattle.matrix.specs.Range.{first_from}
use Rattle.omega.specs.Modular.{exponent_of}
use Rattle.omega.proofs.exponent_of.Goals as goal

pub returns-in-1 : goal.returns-in-1
unfolding exponent_of first_from
returns-in-1 c = rw c.in-1.is

pub returns-in-2 : goal.returns-in-2
unfolding exponent_of first_from
returns-in-2 c = rw c.in-2.is

pub returns-in-4 : goal.returns-in-4
unfolding exponent_of first_from
returns-in-4 c = rw c.in-4.is

pub returns-in-8 : goal.returns-in-8
unfolding exponent_of first_from
returns-in-8 c = rw c.in-8.is

pub returns-in-16 : goal.returns-in-16
unfolding exponent_of first_from
returns-in-16 c = rw c.in-16.is

pub returns-in-15 : goal.returns-in-15
unfolding exponent_of first_from
returns-in-15 c = rw c.in-15.is

pub returns-in-13 : goal.returns-in-13
unfolding exponent_of first_from
returns-in-13 c = rw c.in-13.is

pub returns-in-9 : goal.returns-in-9
unfolding exponent_of first_from
returns-in-9 c = rw c.in-9.is

pub returns-in_default : goal.returns-in_default
unfolding exponent_of first_from
returns-in_default c =
    let n = c.in_default.in_default-own.rest in
    simp (ne_eqb _ _ n.0.0.0.0.0.0.0.1, ne_eqb _ _ n.0.0.0.0.0.0.1, ne_eqb _ _ n.0.0.0.0.0.1, ne_eqb _ _ n.0.0.0.0.1, ne_eqb _ _ n.0.0.0.1, ne_eqb _ _ n.0.0.1, ne_eqb _ _ n.0.1, ne_eqb _ _ n.1)
