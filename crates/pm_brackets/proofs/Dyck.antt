-- Words with matched brackets by their grammar (Dyck words): nothing, or a letter and a word, or a word in brackets and a
-- word.
use Rattle.std.proofs.Common.{◌≡◌, ℕ, zero, suc, ◌+◌, ◌≤◌, inl, inr, List, [], ◌∷◌, ◌++◌, take, refl, ap, sym, subst, arith, take_all}
use Rattle.std.proofs.lemmas.Bool.{cases_eq}
use Rattle.std.proofs.lemmas.List.{append_assoc, append-nil}
use Rattle.pm_brackets.specs.declared.letters.TheConstants.{OPEN, CLOSE}
use Rattle.pm_brackets.specs.Word.{IsMatched}
use Rattle.pm_brackets.proofs.Tally.{tally, tally_is, tally-nil, tally_yes, tally_no}
use Rattle.pm_brackets.specs.Word.{IsOther}

pub data IsDyck : List ℕ → Type 0 where
  empty : IsDyck []
  letter : (x : ℕ) (xs : List ℕ) → IsOther x → IsDyck xs → IsDyck (x ∷ xs)
  bracket : (xs ys : List ℕ) → IsDyck xs → IsDyck ys → IsDyck (OPEN ∷ (xs ++ CLOSE ∷ ys))

-- what follows a word in brackets
pub bracket_then : (xs ys zs : List ℕ) → (OPEN ∷ (xs ++ CLOSE ∷ ys)) ++ zs ≡ OPEN ∷ (xs ++ CLOSE ∷ (ys ++ zs))
bracket_then xs ys zs = ap (λ (w : List ℕ). OPEN ∷ w) (append_assoc xs (CLOSE ∷ ys) zs)

pub dyck_join : (xs ys : List ℕ) → IsDyck xs → IsDyck ys → IsDyck (xs ++ ys)
dyck_join _ ys empty d = d
dyck_join _ ys (letter x xs o a) d = letter x (xs ++ ys) o (dyck_join xs ys a d)
dyck_join _ ys (bracket xs zs a b) d = subst IsDyck (sym (bracket_then xs zs ys)) (bracket xs (zs ++ ys) a (dyck_join zs ys b d))

-- a text before which so many brackets were left open: words, each but the last with a `)` behind it
data IsLevel : ℕ → List ℕ → Type 0 where
  flat : (xs : List ℕ) → IsDyck xs → IsLevel zero xs
  deep : (d : ℕ) (xs ys : List ℕ) → IsDyck xs → IsLevel d ys → IsLevel (suc d) (xs ++ CLOSE ∷ ys)

level_letter : (d x : ℕ) (xs : List ℕ) → IsOther x → IsLevel d xs → IsLevel d (x ∷ xs)
level_letter _ x _ o (flat xs a) = flat (x ∷ xs) (letter x xs o a)
level_letter _ x _ o (deep d xs ys a b) = deep d (x ∷ xs) ys (letter x xs o a) b

level_inner : (d : ℕ) (xs ys : List ℕ) → IsDyck xs → IsLevel d ys → IsLevel d (OPEN ∷ (xs ++ CLOSE ∷ ys))
level_inner _ xs _ a (flat ys b) = flat (OPEN ∷ (xs ++ CLOSE ∷ ys)) (bracket xs ys a b)
level_inner _ xs _ a (deep d ys zs b c) =
    subst (IsLevel (suc d)) (bracket_then xs ys (CLOSE ∷ zs)) (deep d (OPEN ∷ (xs ++ CLOSE ∷ ys)) zs (bracket xs ys a b) c)

level_open : (e d : ℕ) (xs : List ℕ) → IsLevel e xs → e ≡ suc d → IsLevel d (OPEN ∷ xs)
level_open _ d _ (flat xs a) h = absurd (omega arith)
level_open _ d _ (deep e xs ys a b) h =
    let same : e ≡ d = omega arith in
    subst (λ (k : ℕ). IsLevel k (OPEN ∷ (xs ++ CLOSE ∷ ys))) same (level_inner e xs ys a b)

level_close : (d : ℕ) (xs : List ℕ) → IsLevel d xs → IsLevel (suc d) (CLOSE ∷ xs)
level_close d xs a = deep d [] xs empty a

level_flat : (d : ℕ) (xs : List ℕ) → IsLevel d xs → d ≡ zero → IsDyck xs
level_flat _ _ (flat xs a) h = a
level_flat _ _ (deep d xs ys a b) h = absurd (omega arith)

-- no prefix of the text closes more than there is open
pub record IsAbove (d : ℕ) (xs : List ℕ) : Type 0 where
  pub never_below : (k : ℕ) → tally CLOSE (take k xs) ≤ d + tally OPEN (take k xs)

pub record IsClosing (d : ℕ) (xs : List ℕ) : Type 0 where
  pub equal : tally CLOSE xs ≡ d + tally OPEN xs
  pub above : IsAbove d xs

above_letter : (d x : ℕ) (xs : List ℕ) → IsOther x → IsAbove d (x ∷ xs) → IsAbove d xs
above_letter d x xs o a = record {
  never_below = λ k.
      let p = a.never_below (suc k) in
      let b = tally_no CLOSE x (take k xs) o.not_close in
      let c = tally_no OPEN x (take k xs) o.not_open in
      omega (arith, p, b, c);
}

closing_letter : (d x : ℕ) (xs : List ℕ) → IsOther x → IsClosing d (x ∷ xs) → IsClosing d xs
closing_letter d x xs o a = record {
  equal =
      let p = a.equal in
      let b = tally_no CLOSE x xs o.not_close in
      let c = tally_no OPEN x xs o.not_open in
      omega (arith, p, b, c);
  above = above_letter d x xs o a.above;
}

closing_open : (d : ℕ) (xs : List ℕ) → IsClosing d (OPEN ∷ xs) → IsClosing (suc d) xs
closing_open d xs a = record {
  equal =
      let p = a.equal in
      let b = tally_no CLOSE OPEN xs (λ e. omega arith) in
      let c = tally_yes OPEN OPEN xs refl in
      omega (arith, p, b, c);
  above = record {
    never_below = λ k.
        let p = a.above.never_below (suc k) in
        let b = tally_no CLOSE OPEN (take k xs) (λ e. omega arith) in
        let c = tally_yes OPEN OPEN (take k xs) refl in
        omega (arith, p, b, c);
  };
}

closing_close : (d : ℕ) (xs : List ℕ) → IsClosing (suc d) (CLOSE ∷ xs) → IsClosing d xs
closing_close d xs a = record {
  equal =
      let p = a.equal in
      let b = tally_yes CLOSE CLOSE xs refl in
      let c = tally_no OPEN CLOSE xs (λ e. omega arith) in
      omega (arith, p, b, c);
  above = record {
    never_below = λ k.
        let p = a.above.never_below (suc k) in
        let b = tally_yes CLOSE CLOSE (take k xs) refl in
        let c = tally_no OPEN CLOSE (take k xs) (λ e. omega arith) in
        omega (arith, p, b, c);
  };
}

closing_none : (xs : List ℕ) → IsClosing 0 (CLOSE ∷ xs) → ⊥
closing_none xs a =
    let p = a.above.never_below 1 in
    let b = tally_yes CLOSE CLOSE [] refl in
    let c = tally_no OPEN CLOSE [] (λ e. omega arith) in
    let d = tally-nil OPEN in
    omega (arith, p, b, c, d)

closing_end : (d : ℕ) → IsClosing d [] → d ≡ 0
closing_end d a = let p = a.equal in let b = tally-nil CLOSE in let c = tally-nil OPEN in omega (arith, p, b, c)

closed_level : (d : ℕ) (xs : List ℕ) → IsClosing d (CLOSE ∷ xs) → ((e : ℕ) → IsClosing e xs → IsLevel e xs) → IsLevel d (CLOSE ∷ xs)
closed_level zero xs a h = absurd (closing_none xs a)
closed_level (suc d) xs a h = level_close d xs (h d (closing_close d xs a))

level_of : (xs : List ℕ) (d : ℕ) → IsClosing d xs → IsLevel d xs
level_of [] d a = subst (λ (k : ℕ). IsLevel k []) (sym (closing_end d a)) (flat [] empty)
level_of (x ∷ xs) d a =
    elim (cases_eq x OPEN) [
      | inl o ↦
          let C : ℕ → Type 0 = λ y. IsClosing d (y ∷ xs) in
          let L : ℕ → Type 0 = λ y. IsLevel d (y ∷ xs) in
          subst L (sym o) (level_open (suc d) d xs (level_of xs (suc d) (closing_open d xs (subst C o a))) refl)
      | inr no_open ↦ elim (cases_eq x CLOSE) [
        | inl c ↦
            let C : ℕ → Type 0 = λ y. IsClosing d (y ∷ xs) in
            let L : ℕ → Type 0 = λ y. IsLevel d (y ∷ xs) in
            subst L (sym c) (closed_level d xs (subst C c a) (λ e h. level_of xs e h))
        | inr no_close ↦
            let o : IsOther x = record { not_open = no_open; not_close = no_close } in
            level_letter d x xs o (level_of xs d (closing_letter d x xs o a))
      ]
    ]

pub dyck_from_matched : (xs : List ℕ) → IsMatched xs → IsDyck xs
dyck_from_matched xs m =
    level_flat 0 xs
    (level_of xs 0 (record {
      equal = let a = tally_is CLOSE xs in let b = tally_is OPEN xs in omega (arith, m.equal, a, b);
      above = record {
        never_below = λ k.
            let p = m.never_below k in
            let a = tally_is CLOSE (take k xs) in
            let b = tally_is OPEN (take k xs) in
            omega (arith, p, a, b);
      };
    })) refl

-- a word before a text keeps the text's levels
closing_before : (d : ℕ) (xs zs : List ℕ) → IsDyck xs → IsClosing d zs → IsClosing d (xs ++ zs)
closing_before d _ zs empty c = c
closing_before d _ zs (letter x xs o a) c =
    let h = closing_before d xs zs a c in
    record {
      equal =
          let p = h.equal in
          let e = tally_no CLOSE x (xs ++ zs) o.not_close in
          let f = tally_no OPEN x (xs ++ zs) o.not_open in
          omega (arith, p, e, f);
      above = record { never_below = λ k. letter_prefix k x (xs ++ zs) o h.above };
    } where
      letter_prefix : (k x : ℕ) (ys : List ℕ) → IsOther x → IsAbove d ys → tally CLOSE (take k (x ∷ ys)) ≤ d + tally OPEN (take k (x ∷ ys))
      letter_prefix zero x ys o h = let e = tally-nil CLOSE in omega (arith, e)
      letter_prefix (suc k) x ys o h =
          let p = h.never_below k in
          let e = tally_no CLOSE x (take k ys) o.not_close in
          let f = tally_no OPEN x (take k ys) o.not_open in
          omega (arith, p, e, f)
closing_before d _ zs (bracket xs ys a b) c =
    let h = closing_before (suc d) xs (CLOSE ∷ (ys ++ zs)) a (closing_with_close d (ys ++ zs) (closing_before d ys zs b c)) in
    subst (IsClosing d) (sym (bracket_then xs ys zs)) (closing_with_open d (xs ++ CLOSE ∷ (ys ++ zs)) h) where
      close_prefix : (d k : ℕ) (ys : List ℕ) → IsAbove d ys → tally CLOSE (take k (CLOSE ∷ ys)) ≤ suc d + tally OPEN (take k (CLOSE ∷ ys))
      close_prefix d zero ys h = let e = tally-nil CLOSE in omega (arith, e)
      close_prefix d (suc k) ys h =
          let p = h.never_below k in
          let e = tally_yes CLOSE CLOSE (take k ys) refl in
          let f = tally_no OPEN CLOSE (take k ys) (λ w. omega arith) in
          omega (arith, p, e, f)

      open_prefix : (d k : ℕ) (ys : List ℕ) → IsAbove (suc d) ys → tally CLOSE (take k (OPEN ∷ ys)) ≤ d + tally OPEN (take k (OPEN ∷ ys))
      open_prefix d zero ys h = let e = tally-nil CLOSE in omega (arith, e)
      open_prefix d (suc k) ys h =
          let p = h.never_below k in
          let e = tally_no CLOSE OPEN (take k ys) (λ w. omega arith) in
          let f = tally_yes OPEN OPEN (take k ys) refl in
          omega (arith, p, e, f)

      closing_with_close : (d : ℕ) (ys : List ℕ) → IsClosing d ys → IsClosing (suc d) (CLOSE ∷ ys)
      closing_with_close d ys h = record {
        equal =
            let p = h.equal in
            let e = tally_yes CLOSE CLOSE ys refl in
            let f = tally_no OPEN CLOSE ys (λ w. omega arith) in
            omega (arith, p, e, f);
        above = record { never_below = λ k. close_prefix d k ys h.above };
      }

      closing_with_open : (d : ℕ) (ys : List ℕ) → IsClosing (suc d) ys → IsClosing d (OPEN ∷ ys)
      closing_with_open d ys h = record {
        equal =
            let p = h.equal in
            let e = tally_no CLOSE OPEN ys (λ w. omega arith) in
            let f = tally_yes OPEN OPEN ys refl in
            omega (arith, p, e, f);
        above = record { never_below = λ k. open_prefix d k ys h.above };
      }

closing_nothing : IsClosing 0 []
closing_nothing = record {
  equal = let a = tally-nil CLOSE in let b = tally-nil OPEN in omega (arith, a, b);
  above = record {
    never_below = λ k.
        let e = ap (tally CLOSE) (take_all k [] (omega arith)) in
        let a = tally-nil CLOSE in
        omega (arith, e, a);
  };
}

pub matched_from_dyck : (xs : List ℕ) → IsDyck xs → IsMatched xs
matched_from_dyck xs d =
    let h = closing_before 0 xs [] d closing_nothing in
    let e : xs ++ [] ≡ xs = append-nil xs in
    let g : IsClosing 0 xs = subst (IsClosing 0) e h in
    record {
      equal = let p = g.equal in let a = tally_is CLOSE xs in let b = tally_is OPEN xs in omega (arith, p, a, b);
      never_below = λ k.
          let p = g.above.never_below k in
          let a = tally_is CLOSE (take k xs) in
          let b = tally_is OPEN (take k xs) in
          omega (arith, p, a, b);
    }
