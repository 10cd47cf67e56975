-- Levels of a word of brackets over its lows: which brackets have their other ones beyond a place.
use Rattle.std.proofs.Common.{◌≡◌, ℕ, suc, ◌+◌, ◌-◌, ◌≤◌, ◌<◌, inl, inr, List, slice_index, ap, arith}
use Rattle.std.proofs.lemmas.Bool.{cases_eq}
use Rattle.pm_brackets.specs.declared.letters.TheConstants.{OPEN, CLOSE}
use Rattle.pm_brackets.specs.Word.{IsOther, IsBracketPair}
use Rattle.pm_brackets.proofs.Levels.{seen, seen_yes, seen_no, even_from_pair}

-- The level before the place `here` is so far above the least level before the places from `first` to `last`.
pub record IsLow (places : List ℕ) (first last here above : ℕ) : Type 0 where
  pub low : ℕ
  pub from : first ≤ low
  pub to : low ≤ last
  pub level : seen OPEN places here + seen CLOSE places low ≡ seen OPEN places low + seen CLOSE places here + above
  pub least : (j : ℕ) → first ≤ j → j ≤ last → seen OPEN places here + seen CLOSE places j ≤ seen OPEN places j + seen CLOSE places here + above

pub low_start : (places : List ℕ) (k : ℕ) → IsLow places k k k 0
low_start places k = record {
  low = k;
  from = omega arith;
  to = omega arith;
  level = omega arith;
  least = λ j l u.
      let e : j ≡ k = omega arith in
      let x = ap (seen OPEN places) e in
      let y = ap (seen CLOSE places) e in
      omega (arith, x, y);
}

-- reading on
pub low_other : (places : List ℕ) (first p above : ℕ) → IsOther (slice_index places p) → IsLow places first p p above → IsLow places first (suc p) (suc p) above
low_other places first p above o h =
    let a = seen_no OPEN places p o.not_open in
    let b = seen_no CLOSE places p o.not_close in
    record {
      low = h.low;
      from = h.from;
      to = let t = h.to in omega arith;
      level = omega (arith, a, b, h.level);
      least = λ j l u.
          elim (cases_eq j (suc p)) [
            | inl e ↦
                let x = ap (seen OPEN places) e in
                let y = ap (seen CLOSE places) e in
                omega (arith, x, y)
            | inr n ↦ let m = h.least j l (omega arith) in omega (arith, a, b, m)
          ];
    }

pub low_open : (places : List ℕ) (first p above : ℕ) → slice_index places p ≡ OPEN → IsLow places first p p above → IsLow places first (suc p) (suc p) (suc above)
low_open places first p above x h =
    let a = seen_yes OPEN places p (omega arith) x in
    let b = seen_no CLOSE places p (λ e. omega arith) in
    record {
      low = h.low;
      from = h.from;
      to = let t = h.to in omega arith;
      level = omega (arith, a, b, h.level);
      least = λ j l u.
          elim (cases_eq j (suc p)) [
            | inl e ↦
                let x = ap (seen OPEN places) e in
                let y = ap (seen CLOSE places) e in
                omega (arith, x, y)
            | inr n ↦ let m = h.least j l (omega arith) in omega (arith, a, b, m)
          ];
    }

pub low_close : (places : List ℕ) (first p above : ℕ) → slice_index places p ≡ CLOSE → 0 < above → IsLow places first p p above → IsLow places first (suc p) (suc p) (above - 1)
low_close places first p above x some h =
    let a = seen_yes CLOSE places p (omega arith) x in
    let b = seen_no OPEN places p (λ e. omega arith) in
    record {
      low = h.low;
      from = h.from;
      to = let t = h.to in omega arith;
      level = omega (arith, a, b, h.level);
      least = λ j l u.
          elim (cases_eq j (suc p)) [
            | inl e ↦
                let x = ap (seen OPEN places) e in
                let y = ap (seen CLOSE places) e in
                omega (arith, x, y)
            | inr n ↦ let m = h.least j l (omega arith) in omega (arith, a, b, m)
          ];
    }

pub low_sinks : (places : List ℕ) (first p : ℕ) → slice_index places p ≡ CLOSE → first ≤ p → IsLow places first p p 0 → IsLow places first (suc p) (suc p) 0
low_sinks places first p x within h =
    let a = seen_yes CLOSE places p (omega arith) x in
    let b = seen_no OPEN places p (λ e. omega arith) in
    record {
      low = suc p;
      from = omega arith;
      to = omega arith;
      level = omega arith;
      least = λ j l u.
          elim (cases_eq j (suc p)) [
            | inl e ↦
                let x = ap (seen OPEN places) e in
                let y = ap (seen CLOSE places) e in
                omega (arith, x, y)
            | inr n ↦ let m = h.least j l (omega arith) in omega (arith, a, b, m)
          ];
    }

-- reading back
pub back_other : (places : List ℕ) (last p above : ℕ) → IsOther (slice_index places p) → IsLow places (suc p) last (suc p) above → IsLow places p last p above
back_other places last p above o h =
    let a = seen_no OPEN places p o.not_open in
    let b = seen_no CLOSE places p o.not_close in
    record {
      low = h.low;
      from = let t = h.from in omega arith;
      to = h.to;
      level = omega (arith, a, b, h.level);
      least = λ j l u.
          elim (cases_eq j p) [
            | inl e ↦
                let x = ap (seen OPEN places) e in
                let y = ap (seen CLOSE places) e in
                omega (arith, x, y)
            | inr n ↦ let m = h.least j (omega arith) u in omega (arith, a, b, m)
          ];
    }

pub back_close : (places : List ℕ) (last p above : ℕ) → slice_index places p ≡ CLOSE → IsLow places (suc p) last (suc p) above → IsLow places p last p (suc above)
back_close places last p above x h =
    let a = seen_yes CLOSE places p (omega arith) x in
    let b = seen_no OPEN places p (λ e. omega arith) in
    record {
      low = h.low;
      from = let t = h.from in omega arith;
      to = h.to;
      level = omega (arith, a, b, h.level);
      least = λ j l u.
          elim (cases_eq j p) [
            | inl e ↦
                let x = ap (seen OPEN places) e in
                let y = ap (seen CLOSE places) e in
                omega (arith, x, y)
            | inr n ↦ let m = h.least j (omega arith) u in omega (arith, a, b, m)
          ];
    }

pub back_open : (places : List ℕ) (last p above : ℕ) → slice_index places p ≡ OPEN → 0 < above → IsLow places (suc p) last (suc p) above → IsLow places p last p (above - 1)
back_open places last p above x some h =
    let a = seen_yes OPEN places p (omega arith) x in
    let b = seen_no CLOSE places p (λ e. omega arith) in
    record {
      low = h.low;
      from = let t = h.from in omega arith;
      to = h.to;
      level = omega (arith, a, b, h.level);
      least = λ j l u.
          elim (cases_eq j p) [
            | inl e ↦
                let x = ap (seen OPEN places) e in
                let y = ap (seen CLOSE places) e in
                omega (arith, x, y)
            | inr n ↦ let m = h.least j (omega arith) u in omega (arith, a, b, m)
          ];
    }

pub back_sinks : (places : List ℕ) (last p : ℕ) → slice_index places p ≡ OPEN → suc p ≤ last → IsLow places (suc p) last (suc p) 0 → IsLow places p last p 0
back_sinks places last p x within h =
    let a = seen_yes OPEN places p (omega arith) x in
    let b = seen_no CLOSE places p (λ e. omega arith) in
    record {
      low = p;
      from = omega arith;
      to = omega arith;
      level = omega arith;
      least = λ j l u.
          elim (cases_eq j p) [
            | inl e ↦
                let x = ap (seen OPEN places) e in
                let y = ap (seen CLOSE places) e in
                omega (arith, x, y)
            | inr n ↦ let m = h.least j (omega arith) u in omega (arith, a, b, m)
          ];
    }

-- a `)` above the low has its `(` behind the first place, and another hasn't
pub no_opener_before : (places : List ℕ) (first p above s : ℕ) → 0 < above → s < first → IsLow places first p p above → IsBracketPair places s p → ⊥
no_opener_before places first p above s some before h b =
    let e = even_from_pair places s p b in
    let f = h.from in
    let t = h.to in
    let m = e.below h.low (omega arith) t in
    omega (arith, e.equal, m, h.level)

pub no_opener_behind : (places : List ℕ) (first p s : ℕ) → first ≤ s → IsLow places first p p 0 → IsBracketPair places s p → ⊥
no_opener_behind places first p s behind h b =
    let e = even_from_pair places s p b in
    let l = b.before in
    let x = b.opens in
    let m = h.least s behind (omega arith) in
    let a = seen_yes OPEN places s (omega arith) x in
    let d = seen_no CLOSE places s (λ w. omega arith) in
    omega (arith, e.equal, m, a, d)

-- a `(` above the low has its `)` before the last place, and another hasn't
pub no_closer_behind : (places : List ℕ) (last p above q : ℕ) → 0 < above → last ≤ q → IsLow places (suc p) last (suc p) above → IsBracketPair places p q → ⊥
no_closer_behind places last p above q some behind h b =
    let e = even_from_pair places p q b in
    let f = h.from in
    let t = h.to in
    let m = e.below h.low f (omega arith) in
    omega (arith, e.equal, m, h.level)

pub no_closer_before : (places : List ℕ) (last p q : ℕ) → q < last → IsLow places (suc p) last (suc p) 0 → IsBracketPair places p q → ⊥
no_closer_before places last p q before h b =
    let e = even_from_pair places p q b in
    let l = b.before in
    let y = b.closes in
    let m = h.least (suc q) (omega arith) (omega arith) in
    let a = seen_yes CLOSE places q (omega arith) y in
    let d = seen_no OPEN places q (λ w. omega arith) in
    omega (arith, e.equal, m, a, d)
