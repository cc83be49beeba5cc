-- How many of the first rows pass a test.
use Rattle.std.proofs.Common.{◌≡◌, ℕ, zero, suc, ◌+◌, ◌≤◌, Bool, false, cond, ltb, List, length, take, slice_index_or, refl, ap, ◌∙◌, inl, inr, arith}
use Rattle.std.specs.List.{count_by}
use Rattle.std.proofs.lemmas.Bool.{cases_Bool, ltb-true, ltb-false}
use Rattle.std.proofs.lemmas.List.{take_all, get_or_past}
use Rattle.std.proofs.lemmas.List.Sums.{count_by_more_yes, count_by_more_no}
use Rattle.agreement.specs.Sites.{size}

-- past the rows is d, which does not pass
module _ {A : Type 0} (p : A → Bool) (d : A) (none : p d ≡ false) (rows : List A) where
  -- the sites whose rows pass
  abbrev pub passing : ℕ → Bool
  passing j = p (slice_index_or rows j d)

  one_more : (n : ℕ) → count_by p (take (n + 1) rows) ≡ cond (passing n) 1 0 + count_by p (take n rows)
  one_more n = elim (cases_Bool (ltb n (length rows))) [
    | inl h ↦ elim (cases_Bool (passing n)) [
      | inl y ↦ rw y (omega (arith, count_by_more_yes p rows n d (ltb-true n (length rows) h) y))
      | inr y ↦ rw y (omega (arith, count_by_more_no p rows n d (ltb-true n (length rows) h) y))
    ]
    | inr h ↦
        let past : length rows ≤ n = ltb-false n (length rows) h in
        rw (take_all (n + 1) rows (omega arith), take_all n rows past, get_or_past rows n d past, none) (omega arith)
  ]

  -- so many of the first n rows pass as of the first n sites
  pub count_size : (n : ℕ) → count_by p (take n rows) ≡ size passing n
  count_size zero = refl
  count_size (suc n) = let e : suc n ≡ n + 1 = omega arith in ap (λ k. count_by p (take k rows)) e ∙ one_more n ∙ ap (λ k. cond (passing n) 1 0 + k) (count_size n)
