-- How often a label and a name stand in a tree. Each name stands once where each label does.
use Rattle.std.proofs.Common.{◌≡◌, ℕ, zero, suc, ◌+◌, ◌-◌, ◌*◌, ◌<◌, ◌≤◌, ◌≢◌, ◌⊎◌, ◌==◌, min, max, if◌then◌else◌, refl, sym, subst, inl, inr, arith}
use Rattle.std.proofs.lemmas.Bool.{cases_lt}
use Rattle.std.proofs.lemmas.Bool.Decides.{nat_tests}
use Rattle.pm_remy.specs.Tree.{Tree, leaf, fork, least, name}

-- 1 where the two numbers are equal, and 0 elsewhere
pub hit : ℕ → ℕ → ℕ
hit a b = if a == b then 1 else 0

pub hit_tells : (a b : ℕ) → ((a ≡ b) × (hit a b ≡ 1)) ⊎ ((a ≢ b) × (hit a b ≡ 0))
unfolding hit
hit_tells a b = grind (arith, nat_tests)

pub hit_other : (a b : ℕ) → a ≢ b → hit a b ≡ 0
hit_other a b h = grind (arith, hit_tells)

pub hit_same : (a b : ℕ) → a ≡ b → hit a b ≡ 1
hit_same a b h = grind (arith, hit_tells)

-- how often the label stands in the tree
abbrev pub label_times : ℕ → Tree → ℕ
label_times m (leaf j) = hit j m
label_times m (fork left right) = label_times m left + label_times m right

-- how often the name stands in the tree
abbrev pub name_times : ℕ → Tree → ℕ
name_times b (leaf j) = hit (2 * j) b
name_times b (fork left right) = hit (name (fork left right)) b + (name_times b left + name_times b right)

-- the least label is a label
pub least-stands : (t : Tree) → 1 ≤ label_times (least t) t
least-stands (leaf j) = grind (arith, hit_tells)
least-stands (fork left right) = grind (arith, least-stands left, least-stands right)

fork-hit : (a b g : ℕ) → hit (2 * max a b - 1) (2 * suc g - 1) + hit (min a b) (suc g) ≡ hit a (suc g) + hit b (suc g)
fork-hit a b g = grind (arith, hit_tells)

leaf-hit : (j g : ℕ) → hit (2 * j) (2 * suc g - 1) + hit j (suc g) ≡ hit j (suc g)
leaf-hit j g = grind (arith, hit_tells)

-- the name of a fork stands as often as its label does, less the once that is for the least label
pub fork-name_times : (t : Tree) (g : ℕ) → name_times (2 * suc g - 1) t + hit (least t) (suc g) ≡ label_times (suc g) t
fork-name_times (leaf j) g = leaf-hit j g
fork-name_times (fork left right) g =
    omega (arith, fork-name_times left g, fork-name_times right g, fork-hit (least left) (least right) g)

leaf-hit_even : (j g : ℕ) → hit (2 * j) (2 * g) ≡ hit j g
leaf-hit_even j g = grind (arith, hit_tells)

fork-hit_even : (a b g : ℕ) → hit (2 * max a b - 1) (2 * suc g) ≡ 0
fork-hit_even a b g = grind (arith, hit_tells)

-- the name of a leaf stands as often as its label
pub leaf-name_times : (t : Tree) (g : ℕ) → name_times (2 * suc g) t ≡ label_times (suc g) t
leaf-name_times (leaf j) g = leaf-hit_even j (suc g)
leaf-name_times (fork left right) g =
    omega (arith, leaf-name_times left g, leaf-name_times right g, fork-hit_even (least left) (least right) g)

-- each label stands at most once
pub record IsApart (t : Tree) : Type 0 where
  pub once : (m : ℕ) → label_times m t ≤ 1

pub apart-left : (l r : Tree) → IsApart (fork l r) → IsApart l
apart-left l r h = record { once = λ m. omega (arith, h.once m) }

pub apart-right : (l r : Tree) → IsApart (fork l r) → IsApart r
apart-right l r h = record { once = λ m. omega (arith, h.once m) }

pub zero-name_times : (t : Tree) → IsApart t → name_times 0 t ≡ label_times 0 t
zero-name_times (leaf j) h = leaf-hit_even j 0
zero-name_times (fork left right) h =
    let a = zero-name_times left (apart-left left right h) in
    let b = zero-name_times right (apart-right left right h) in
    grind (arith, hit_tells, a, b, h.once 0, least-stands left, least-stands right)

-- the labels are the numbers below the size, each once
pub record IsCounted (size : ℕ) (t : Tree) : Type 0 where
  pub once : (m : ℕ) → m < size → label_times m t ≡ 1
  pub none : (m : ℕ) → size ≤ m → label_times m t ≡ 0

-- no label reaches the bound
pub record IsBelow (bound : ℕ) (t : Tree) : Type 0 where
  pub none : (m : ℕ) → bound ≤ m → label_times m t ≡ 0

pub below-left : (k : ℕ) (l r : Tree) → IsBelow k (fork l r) → IsBelow k l
below-left k l r h = record { none = λ m q. omega (arith, h.none m q) }

pub below-right : (k : ℕ) (l r : Tree) → IsBelow k (fork l r) → IsBelow k r
below-right k l r h = record { none = λ m q. omega (arith, h.none m q) }

pub below_counted : (k : ℕ) (t : Tree) → IsCounted k t → IsBelow k t
below_counted k t h = record { none = h.none }

pub apart_counted : (k : ℕ) (t : Tree) → IsCounted k t → IsApart t
apart_counted k t h = record { once = λ m. elim (cases_lt m k) [ inl q ↦ omega (arith, h.once m q) | inr q ↦ omega (arith, h.none m q) ] }

pub least-below : (k : ℕ) (t : Tree) → IsBelow k t → least t < k
least-below k t h = elim (cases_lt (least t) k) [ inl q ↦ q | inr q ↦ absurd (omega (arith, h.none (least t) q, least-stands t)) ]

pub name-below : (k : ℕ) (t : Tree) → IsBelow k t → suc (name t) < 2 * k
name-below k (leaf j) h = omega (arith, least-below k (leaf j) h)
name-below k (fork l r) h =
    omega (arith, least-below k l (below-left k l r h), least-below k r (below-right k l r h))

-- the root node's name stands in the tree
pub root-stands : (t : Tree) → 1 ≤ name_times (name t) t
root-stands (leaf j) = grind (arith, hit_tells)
root-stands (fork l r) = grind (arith, hit_tells)

-- each number is twice another or one less than twice a positive one
pub halves : (b : ℕ) → ((b ≡ 0) ⊎ ((g : ℕ) × (b ≡ 2 * suc g))) ⊎ ((g : ℕ) × (b ≡ 2 * suc g - 1))
halves zero = inl (inl refl)
halves (suc b) = elim (halves b) [ inl h ↦ elim h [ inl e ↦ inr (0, omega arith) | inr g ↦ inr (suc g.0, omega (arith, g.1)) ] | inr g ↦ inl (inr (g.0, omega (arith, g.1))) ]

-- each name stands at most once
pub names-apart : (t : Tree) → IsApart t → (b : ℕ) → name_times b t ≤ 1
names-apart t h b =
    elim (halves b) [
      | inl w ↦ elim w [
        | inl e ↦ subst (λ (x : ℕ). name_times x t ≤ 1) (sym e) (omega (arith, zero-name_times t h, h.once 0))
        | inr g ↦ subst (λ (x : ℕ). name_times x t ≤ 1) (sym g.1) (omega (arith, leaf-name_times t g.0, h.once (suc g.0)))
      ]
      | inr g ↦ subst (λ (x : ℕ). name_times x t ≤ 1) (sym g.1) (omega (arith, fork-name_times t g.0, h.once (suc g.0)))
    ]

-- no label is below the least one
pub least-first : (t : Tree) (m : ℕ) → 1 ≤ label_times m t → least t ≤ m
least-first (leaf j) m h = grind (arith, hit_tells)
least-first (fork l r) m h =
    elim (cases_lt 0 (label_times m l)) [ inl q ↦ omega (arith, least-first l m q) | inr q ↦ omega (arith, least-first r m (omega arith)) ]

-- the least label is 0
pub least-counted : (k : ℕ) (t : Tree) → IsCounted k t → least t ≡ 0
least-counted k t h =
    let positive : 0 < k = omega (arith, least-below k t (below_counted k t h)) in
    omega (arith, least-first t 0 (omega (arith, h.once 0 positive)))

-- the names in a tree with n + 1 leaves are 0 to 2n, each once
pub names-once : (k : ℕ) (t : Tree) → IsCounted k t → (b : ℕ) → suc b < 2 * k → name_times b t ≡ 1
names-once k t h b q =
    elim (halves b) [
      | inl w ↦ elim w [
        | inl e ↦ subst (λ (x : ℕ). name_times x t ≡ 1) (sym e) (omega (arith, zero-name_times t (apart_counted k t h), h.once 0 (omega arith)))
        | inr g ↦ subst (λ (x : ℕ). name_times x t ≡ 1) (sym g.1) (omega (arith, leaf-name_times t g.0, h.once (suc g.0) (omega (arith, g.1))))
      ]
      | inr g ↦ subst (λ (x : ℕ). name_times x t ≡ 1) (sym g.1)
          (omega (arith, fork-name_times t g.0, h.once (suc g.0) (omega (arith, g.1)), hit_other (least t) (suc g.0) (omega (arith, least-counted k t h))))
    ]

pub names-none : (k : ℕ) (t : Tree) → IsCounted k t → (b : ℕ) → 2 * k ≤ suc b → name_times b t ≡ 0
names-none k t h b q =
    let positive : 0 < k = omega (arith, least-below k t (below_counted k t h)) in
    elim (halves b) [
      | inl w ↦ elim w [
        | inl e ↦ absurd (omega (arith, e))
        | inr g ↦ subst (λ (x : ℕ). name_times x t ≡ 0) (sym g.1) (omega (arith, leaf-name_times t g.0, h.none (suc g.0) (omega (arith, g.1))))
      ]
      | inr g ↦ subst (λ (x : ℕ). name_times x t ≡ 0) (sym g.1) (omega (arith, fork-name_times t g.0, h.none (suc g.0) (omega (arith, g.1))))
    ]
