-- What is promised, by the outcome.
use Rattle.std.specs.Prelude.{◌≡◌, ◌≢◌, List, ◌++◌, ℕ, ◌+◌, ◌≤◌, ◌<◌, length, Ok, Err}
use Rattle.std.proofs.Common.{sym, ◌∙◌, arith}
use Rattle.std.proofs.Math.Path.{ap}
use Rattle.std.proofs.Math.Nat.{zero-add}
use Rattle.std.proofs.Math.ListN.{drop}
use borrow.Author.Tests.{lt-ltb, le-ltb, eq-eqb, ne_eqb}
use Rattle.file.specs.File.{written, Appended}
use Rattle.bundle.specs.Bundle.{most_sheets, trailer_length, start_of}
use Rattle.bundle.specs.Laws.Made.{made_length}
use Rattle.bundle_write.specs.Writing.{stored_count, sheets_refusal, sheets_bundle, longest_written, bundle_answer, bundle_buffer, BundlePromise}
use Rattle.bundle_write.specs.Laws.Stored.{stored_start, stored_few, stored_end_to_end, stored_reads, stored_parts}

module _ (s : List ℕ) where
  pub many_refused : most_sheets < stored_count s → sheets_refusal s ≡ 20
  unfolding sheets_refusal
  many_refused h = rw (lt-ltb most_sheets (stored_count s) h)

  module _ (few : stored_count s ≤ most_sheets) where
    pub no_sheets_refused : start_of s (stored_count s) ≢ length s → sheets_refusal s ≡ 21
    unfolding sheets_refusal
    no_sheets_refused d = rw (le-ltb most_sheets (stored_count s) few, ne_eqb (start_of s (stored_count s)) (length s) d)

    pub sheets_accepted : start_of s (stored_count s) ≡ length s → sheets_refusal s ≡ 0
    unfolding sheets_refusal
    sheets_accepted e = rw (le-ltb most_sheets (stored_count s) few, eq-eqb (start_of s (stored_count s)) (length s) e)

  -- how long the bundle is
  pub length_bundle : length (sheets_bundle s) ≡ length s + trailer_length (stored_count s)
  unfolding sheets_bundle
  length_bundle = made_length s (stored_count s)

  pub bundle_small : sheets_refusal s ≡ 0 → length (sheets_bundle s) ≤ longest_written
  bundle_small z =
      let l = length_bundle in
      let m = stored_few s z in
      let e = (stored_end_to_end s z).ended in
      let h = (stored_start s (stored_count s) (omega arith)).1 in
      omega arith

  module _ (old : List ℕ) where
    pub promise_refused : (r : ℕ) → sheets_refusal s ≡ r → r ≢ 0 → BundlePromise s old old (Err r)
    unfolding bundle_answer bundle_buffer
    promise_refused r e d =
        let n = ne_eqb (sheets_refusal s) 0 (λ z. d (sym e ∙ z)) in
        record { answer = rw n (ap Err (sym e)); buffer = rw n; reads = stored_reads s; parts = stored_parts s }

    module _ (z : sheets_refusal s ≡ 0) where
      pub promise_short : length old < length (sheets_bundle s) → BundlePromise s old old (Err 6)
      unfolding bundle_answer bundle_buffer
      promise_short h =
          let n = eq-eqb (sheets_refusal s) 0 z in
          let l = lt-ltb (length old) (length (sheets_bundle s)) h in
          record { answer = rw (n, l); buffer = rw (n, l); reads = stored_reads s; parts = stored_parts s }

      pub promise_written : (new : List ℕ) (r : ℕ) → length (sheets_bundle s) ≤ length old → Appended (sheets_bundle s) 0 old new r → BundlePromise s old new (Ok r)
      unfolding bundle_answer bundle_buffer written
      promise_written new r h a =
          let n = eq-eqb (sheets_refusal s) 0 z in
          let l = le-ltb (length old) (length (sheets_bundle s)) h in
          record {
            answer = rw (n, l) (ap Ok (a.next ∙ zero-add (length (sheets_bundle s))));
            buffer = rw (n, l) (a.buffer ∙ ap (λ k. sheets_bundle s ++ drop k old) (zero-add (length (sheets_bundle s))));
            reads = stored_reads s;
            parts = stored_parts s;
          }
