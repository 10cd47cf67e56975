-- Binomial coefficients: Pascal's rule, how one follows from its neighbour by a product and a quotient, and a bound.
use Rattle.std.proofs.Common.{◌≡◌, ℕ, zero, suc, ◌+◌, ◌-◌, ◌*◌, ◌/◌, ◌^◌, ◌≤◌, ◌<◌, refl, ap, sym, ◌∙◌, arith}
use Rattle.std.proofs.Math.Nat.{mul-div_cancel_left}
use Rattle.pm_limits.specs.declared.TheConstants.{MAX_DEGREE}
use Rattle.pm_trees.specs.Binomial.{choose}

pub choose_none : (n : ℕ) → choose n 0 ≡ 1
unfolding choose
choose_none zero = refl
choose_none (suc n) = refl

pub choose_past : (k : ℕ) → choose 0 (suc k) ≡ 0
unfolding choose
choose_past k = refl

pub pascal : (n k : ℕ) → choose (suc n) (suc k) ≡ choose n k + choose n (suc k)
unfolding choose
pascal n k = refl

-- there is a choice of no more than there are
pub choose_some : (n k : ℕ) → k ≤ n → 0 < choose n k
choose_some n zero few = let a = choose_none n in omega (arith, a)
choose_some zero (suc k) few = absurd (omega arith)
choose_some (suc n) (suc k) few = let a = pascal n k in let h = choose_some n k (omega arith) in omega (arith, a, h)

pub choose_more : (n k : ℕ) → choose n k ≤ choose (suc n) k
choose_more n zero = let a = choose_none n in let b = choose_none (suc n) in omega (arith, a, b)
choose_more n (suc k) = let a = pascal n k in omega (arith, a)

pub choose-le-power : (n k : ℕ) → choose n k ≤ 2 ^ n
choose-le-power zero zero = let a = choose_none 0 in omega (arith, a)
choose-le-power zero (suc k) = let a = choose_past k in omega (arith, a)
choose-le-power (suc n) zero =
    let a = choose_none n in
    let b = choose_none (suc n) in
    let c = choose-le-power n zero in
    omega (arith, a, b, c)
choose-le-power (suc n) (suc k) =
    let a = choose-le-power n k in
    let b = choose-le-power n (suc k) in
    let c = pascal n k in
    omega (arith, a, b, c)

-- (k+1) C(n+1, k+1) = (n+1) C(n, k)
pub absorb : (n k : ℕ) → suc k * choose (suc n) (suc k) ≡ suc n * choose n k
absorb zero zero = let a = pascal 0 0 in let b = choose_none 0 in let c = choose_past 0 in omega (arith, a, b, c)
absorb zero (suc k) =
    let a = pascal 0 (suc k) in
    let b = choose_past k in
    let c = choose_past (suc k) in
    let d : choose 1 (suc (suc k)) ≡ 0 = omega (arith, a, b, c) in
    rw (d, b) (omega arith)
absorb (suc n) zero =
    let a = absorb n zero in
    let b = pascal (suc n) 0 in
    let c = choose_none (suc n) in
    let d = choose_none n in
    let e : choose (suc n) 1 ≡ suc n = omega (arith, a, ap (λ (x : ℕ). n * x) d, d) in
    rw (b, c, e) (omega arith)
absorb (suc n) (suc k) =
    let a = absorb n k in
    let b = absorb n (suc k) in
    let c = pascal (suc n) (suc k) in
    let d = pascal n k in
    let e = ap (λ (x : ℕ). n * x) d in
    let f = ap (λ (x : ℕ). k * x) c in
    omega (arith, a, b, c, d, e, f)

-- (n+1) C(n, k) = (n+1-k) C(n+1, k)
pub stay : (n k : ℕ) → suc n * choose n k + k * choose (suc n) k ≡ suc n * choose (suc n) k
stay n zero = let a = choose_none n in let b = choose_none (suc n) in rw (a, b) (omega arith)
stay n (suc k) =
    let a = absorb n k in
    let b = pascal n k in
    let c = ap (λ (x : ℕ). n * x) b in
    omega (arith, a, b, c)

-- the share of the words that begin with the other letter
pub share : (n k : ℕ) → k ≤ suc n → choose (suc n) k * (suc n - k) / suc n ≡ choose n k
share n k h =
    let a = stay n k in
    let j : ℕ = suc n - k in
    let e : k + j ≡ suc n = omega arith in
    let f = ap (λ (x : ℕ). x * choose (suc n) k) e in
    let g : choose (suc n) k * (suc n - k) ≡ suc n * choose n k = omega (arith, a, f) in
    ap (λ (x : ℕ). x / suc n) g ∙ mul-div_cancel_left (choose n k) {n = suc n} (omega arith)

pub choose_above : (n k : ℕ) → n < k → choose n k ≡ 0
choose_above n zero h = absurd (omega arith)
choose_above zero (suc k) h = choose_past k
choose_above (suc n) (suc k) h =
    let a = choose_above n k (omega arith) in
    let b = choose_above n (suc k) (omega arith) in
    let c = pascal n k in
    omega (arith, a, b, c)

choose-le-later : (n k more : ℕ) → choose n k ≤ choose (n + more) k
choose-le-later n k zero = let e : n + 0 ≡ n = omega arith in let a = ap (λ (m : ℕ). choose m k) e in omega (arith, a)
choose-le-later n k (suc more) =
    let a = choose-le-later n k more in
    let b = choose_more (n + more) k in
    let e : suc (n + more) ≡ n + suc more = omega arith in
    let c = ap (λ (m : ℕ). choose m k) e in
    omega (arith, a, b, c)

pub choose_small : (n k : ℕ) → n ≤ 63 → choose n k < 2 ^ 64
choose_small n k h =
    let a = choose-le-later n k (63 - n) in
    let e : n + (63 - n) ≡ 63 = omega arith in
    let b = ap (λ (m : ℕ). choose m k) e in
    let c = choose-le-power 63 k in
    omega (arith, a, b, c)

cancel : (j x y : ℕ) → suc j * x ≡ suc j * y → x ≡ y
cancel j x y e =
    sym (mul-div_cancel_left x {n = suc j} (omega arith)) ∙ ap (λ (z : ℕ). z / suc j) e ∙ mul-div_cancel_left y {n = suc j} (omega arith)

-- the middle coefficient is twice its neighbour above
middle : (j : ℕ) → choose (suc (suc (2 * j))) (suc j) ≡ 2 * choose (suc (2 * j)) (suc j)
middle j =
    let a = stay (suc (2 * j)) (suc j) in
    cancel j _ _ (omega (arith, a))

central_product : (j : ℕ) → suc (suc j) * choose (suc (suc (suc (2 * j)))) (suc (suc j)) ≡ choose (suc (2 * j)) (suc j) * (2 * (2 * suc j + 1))
central_product j =
    let a = absorb (suc (suc (2 * j))) (suc j) in
    let b = ap (λ (x : ℕ). suc (suc (suc (2 * j))) * x) (middle j) in
    omega (arith, a, b)

-- C(2i+1, i+1) = C(2i-1, i) 2(2i+1) / (i+1)
pub central : (i : ℕ) → 0 < i → choose (2 * i - 1) i * (2 * (2 * i + 1)) / (i + 1) ≡ choose (2 * (i + 1) - 1) (i + 1)
central zero h = absurd (omega arith)
central (suc j) h =
    let a : 2 * suc j - 1 ≡ suc (2 * j) = omega arith in
    let b : suc j + 1 ≡ suc (suc j) = omega arith in
    let c : 2 * (suc j + 1) - 1 ≡ suc (suc (suc (2 * j))) = omega arith in
    rw (c, a, b)
    (ap (λ (z : ℕ). z / suc (suc j)) (sym (central_product j)) ∙ mul-div_cancel_left (choose (suc (suc (suc (2 * j)))) (suc (suc j))) {n = suc (suc j)} (omega arith))

pub central_first : choose (2 * 1 - 1) 1 ≡ 1
central_first = let a = pascal 0 0 in let b = choose_none 0 in let c = choose_past 0 in omega (arith, a, b, c)

pub share_at : (total letters slots : ℕ) → 0 < letters → slots ≤ letters → total ≡ choose letters slots → total * (letters - slots) / letters ≡ choose (letters - 1) slots
share_at total zero slots some few e = absurd (omega arith)
share_at total (suc n) slots some few e =
    let f : suc n - 1 ≡ n = omega arith in
    ap (λ (x : ℕ). x * (suc n - slots) / suc n) e ∙ share n slots few ∙ ap (λ (m : ℕ). choose m slots) (sym f)

-- the middle coefficient of a number of places, and that it is small
pub record IsCentral (i count : ℕ) : Type 0 where
  pub counted : count ≡ choose (2 * i - 1) i
  pub small : i ≤ MAX_DEGREE / 2 → count < 2 ^ 64

central_is : (i count : ℕ) → count ≡ choose (2 * i - 1) i → IsCentral i count
central_is i count e = record { counted = e; small = λ h. let a = choose_small (2 * i - 1) i (omega arith) in omega (arith, a, e) }

pub central_start : IsCentral 1 1
central_start = central_is 1 1 (sym central_first)

pub central_next : (i count : ℕ) → 0 < i → IsCentral i count → IsCentral (i + 1) (count * (2 * (2 * i + 1)) / (i + 1))
central_next i count h c = central_is (i + 1) _ (ap (λ (x : ℕ). x * (2 * (2 * i + 1)) / (i + 1)) c.counted ∙ central i h)
