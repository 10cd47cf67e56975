-- The search for the root node that a side had when its fork came: from noted choice to noted choice.
use Rattle.std.proofs.Common.{◌≡◌, ℕ, suc, ◌+◌, ◌-◌, ◌*◌, ◌/◌, ◌<◌, ◌≤◌, ◌≢◌, max, List, [], ◌∷◌, length, slice_index, slice_set, refl, sym, subst, ap, ◌∙◌, inl, inr, arith, get_or-set_same, get_or-set_other}
use Rattle.std.proofs.lemmas.Bool.{cases_lt}
use Rattle.pm_remy.specs.Tree.{Tree, leaf, fork, least, name}
use Rattle.pm_remy.specs.steps.Noted.{root_upto, fork_choice, AreNoted}
use Rattle.pm_remy.proofs.Counts.{hit_same, label_times, name_times, least-stands, IsApart, apart-left, apart-right, names-apart}
use Rattle.pm_remy.proofs.Linking.{sides-apart}
use Rattle.pm_remy.proofs.Gathering.{label_times_all, AreApart}
use Rattle.pm_remy.proofs.Noting.{root-kept, root-left, root-right, root-leaf, choice-left, choice-right}

-- the part of a tree whose root node is that of the tree with the labels up to a bound
record IsPart (f : ℕ → ℕ) (g : ℕ) (t : Tree) : Type 0 where
  part : Tree
  root : name part ≡ root_upto g t
  first : least part ≡ least t
  noted : AreNoted f part
  same : (j : ℕ) → j ≤ g → root_upto j part ≡ root_upto j t

part-of : (f : ℕ → ℕ) (g : ℕ) (t : Tree) → AreNoted f t → IsPart f g t
part-of f g (leaf m) h = record { part = leaf m; root = sym (root-leaf g m); first = refl; noted = h; same = λ j q. refl }
part-of f g (fork l r) h =
    elim (cases_lt g (max (least l) (least r))) [
      | inl q ↦ elim (cases_lt (least l) (least r)) [
        | inl i ↦ let p = part-of f g l h.1 in
            record {
              part = p.part;
              root = p.root ∙ sym (root-left g l r q i);
              first = omega (arith, p.first);
              noted = p.noted;
              same = λ j low. p.same j low ∙ sym (root-left j l r (omega arith) i);
            }
        | inr i ↦ let p = part-of f g r h.2 in
            record {
              part = p.part;
              root = p.root ∙ sym (root-right g l r q i);
              first = omega (arith, p.first);
              noted = p.noted;
              same = λ j low. p.same j low ∙ sym (root-right j l r (omega arith) i);
            }
      ]
      | inr q ↦ record { part = fork l r; root = sym (root-kept g l r q); first = refl; noted = h; same = λ j low. refl }
    ]

-- the node is the root node of a noted tree, in which the one that is sought is the same as in the first
pub record IsMet (f : ℕ → ℕ) (j node root : ℕ) : Type 0 where
  pub tree : Tree
  pub node_is : name tree ≡ node
  pub low : least tree ≤ j
  pub noted : AreNoted f tree
  pub same : root_upto j tree ≡ root

pub met-start : (f : ℕ → ℕ) (j : ℕ) (t : Tree) → AreNoted f t → least t ≤ j → IsMet f j (name t) (root_upto j t)
met-start f j t h q = record { tree = t; node_is = refl; low = q; noted = h; same = refl }

step-at : (f : ℕ → ℕ) (j node root : ℕ) (t : Tree) → name t ≡ node → least t ≤ j → AreNoted f t → root_upto j t ≡ root → 2 * j < node → IsMet f j (f (node / 2) / 2) root
step-at f j node root (leaf m) e low h same q = absurd (omega (arith, e))
step-at f j node root (fork l r) e low h same q =
    let g = max (least l) (least r) in
    let at : node / 2 ≡ g - 1 = omega (arith, e) in
    let above : j < g = omega (arith, e) in
    let entry : f (node / 2) ≡ fork_choice l r = ap f at ∙ h.0 in
    elim (cases_lt (least l) (least r)) [
      | inl i ↦ let p = part-of f (least r) l h.1 in
          let twice : f (node / 2) ≡ 2 * root_upto (least r) l = entry ∙ choice-left l r i in
          record {
            tree = p.part;
            node_is = p.root ∙ omega (arith, twice);
            low = omega (arith, p.first);
            noted = p.noted;
            same = p.same j (omega arith) ∙ (sym (root-left j l r above i) ∙ same);
          }
      | inr i ↦ let p = part-of f (least l) r h.2 in
          let twice : f (node / 2) ≡ suc (2 * root_upto (least l) r) = entry ∙ choice-right l r i in
          record {
            tree = p.part;
            node_is = p.root ∙ omega (arith, twice);
            low = omega (arith, p.first);
            noted = p.noted;
            same = p.same j (omega arith) ∙ (sym (root-right j l r above i) ∙ same);
          }
    ]

pub met-step : (f : ℕ → ℕ) (j node root : ℕ) → IsMet f j node root → 2 * j < node → IsMet f j (f (node / 2) / 2) root
met-step f j node root h q = step-at f j node root h.tree h.node_is h.low h.noted h.same q

-- a node above the bound is a fork
odd-at : (j node : ℕ) (t : Tree) → name t ≡ node → least t ≤ j → 2 * j < node → suc (2 * (node / 2)) ≡ node
odd-at j node (leaf m) e low q = absurd (omega (arith, e))
odd-at j node (fork l r) e low q = omega (arith, e)

pub met-odd : (f : ℕ → ℕ) (j node root : ℕ) → IsMet f j node root → 2 * j < node → suc (2 * (node / 2)) ≡ node
met-odd f j node root h q = odd-at j node h.tree h.node_is h.low q

end-at : (j node root : ℕ) (t : Tree) → name t ≡ node → root_upto j t ≡ root → node ≤ 2 * j → node ≡ root
end-at j node root (leaf m) e same q = sym e ∙ (sym (root-leaf j m) ∙ same)
end-at j node root (fork l r) e same q = sym e ∙ (sym (root-kept j l r (omega (arith, e))) ∙ same)

pub met-end : (f : ℕ → ℕ) (j node root : ℕ) → IsMet f j node root → node ≤ 2 * j → node ≡ root
met-end f j node root h q = end-at j node root h.tree h.node_is h.same q

-- the root node of the earlier side is below the fork that comes later
pub upto-low : (g : ℕ) (t : Tree) → IsApart t → label_times g t ≡ 0 → least t < g → root_upto g t < 2 * g - 1
upto-low g (leaf m) w none q = omega (arith, root-leaf g m)
upto-low g (fork l r) w none q =
    let differ = sides-apart l r w in
    let no_left : g ≢ least l = λ e. omega (arith, subst (λ (x : ℕ). 1 ≤ label_times x l) (sym e) (least-stands l)) in
    let no_right : g ≢ least r = λ e. omega (arith, subst (λ (x : ℕ). 1 ≤ label_times x r) (sym e) (least-stands r)) in
    elim (cases_lt g (max (least l) (least r))) [
      | inl i ↦ elim (cases_lt (least l) (least r)) [
        | inl x ↦ omega (arith, root-left g l r i x, upto-low g l (apart-left l r w) (omega arith) (omega arith))
        | inr x ↦ omega (arith, root-right g l r i x, upto-low g r (apart-right l r w) (omega arith) (omega arith))
      ]
      | inr i ↦ omega (arith, root-kept g l r i, no_left, no_right, differ)
    ]

-- the choice of a fork is a name and a side of the tree so far
pub choice-low : (l r : Tree) → IsApart (fork l r) → fork_choice l r < 2 * (2 * (max (least l) (least r) - 1) + 1)
choice-low l r w =
    let differ = sides-apart l r w in
    elim (cases_lt (least l) (least r)) [
      | inl i ↦ let none : label_times (least r) l ≡ 0 = omega (arith, w.once (least r), least-stands r) in
          omega (arith, choice-left l r i, upto-low (least r) l (apart-left l r w) none i)
      | inr i ↦ let none : label_times (least l) r ≡ 0 = omega (arith, w.once (least l), least-stands l) in
          omega (arith, choice-right l r i, upto-low (least l) r (apart-right l r w) none (omega (arith, differ)))
    ]

-- what is noted of some trees
abbrev pub AreAllNoted : (ℕ → ℕ) → List Tree → Type 0
AreAllNoted f [] = Unit {0}
AreAllNoted f (t ∷ ts) = AreNoted f t × AreAllNoted f ts

-- a note at a fork that doesn't stand in a tree leaves what is noted of it
kept-noted : (C : List ℕ) (i v : ℕ) (t : Tree) → IsApart t → name_times (2 * suc i - 1) t ≡ 0 → AreNoted (slice_index C) t → AreNoted (slice_index (slice_set C i v)) t
kept-noted C i v (leaf m) w none h = tt
kept-noted C i v (fork l r) w none h =
    let differ = sides-apart l r w in
    let other : max (least l) (least r) - 1 ≢ i = λ e. omega (arith, hit_same (name (fork l r)) (2 * suc i - 1) (omega (arith, e))) in (
      get_or-set_other C i (max (least l) (least r) - 1) v 0 other ∙ h.0,
      kept-noted C i v l (apart-left l r w) (omega arith) h.1,
      kept-noted C i v r (apart-right l r w) (omega arith) h.2,
    )

kept-all : (C : List ℕ) (i v : ℕ) (l r : Tree) (ts : List Tree) → name (fork l r) ≡ 2 * suc i - 1 → ((m : ℕ) → label_times m (fork l r) + label_times_all m ts ≤ 1) → AreAllNoted (slice_index C) ts
    → AreAllNoted (slice_index (slice_set C i v)) ts
kept-all C i v l r [] own h noted = tt
kept-all C i v l r (u ∷ ts) own h noted =
    let all : IsApart (fork (fork l r) u) = record { once = λ m. omega (arith, h m) } in
    let none : name_times (2 * suc i - 1) u ≡ 0 = omega (arith, names-apart (fork (fork l r) u) all (2 * suc i - 1), hit_same (name (fork l r)) (2 * suc i - 1) own) in
    (kept-noted C i v u (apart-right (fork l r) u all) none noted.0, kept-all C i v l r ts own (λ m. omega (arith, h m)) noted.1)

-- the fork of the first two trees is noted by the write, and the others stay
pub noted-joined : (C : List ℕ) (bound : ℕ) (l r : Tree) (ts : List Tree) → AreApart bound (l ∷ (r ∷ ts)) → max (least l) (least r) - 1 < length C → AreAllNoted (slice_index C) (l ∷ (r ∷ ts))
    → AreAllNoted (slice_index (slice_set C (max (least l) (least r) - 1) (fork_choice l r))) (fork l r ∷ ts)
noted-joined C bound l r ts h room noted =
    let apart : IsApart (fork l r) = record { once = λ m. omega (arith, h.once m) } in
    let i = max (least l) (least r) - 1 in
    let v = fork_choice l r in
    let own : name (fork l r) ≡ 2 * suc i - 1 = omega (arith, sides-apart l r apart) in
    let once = names-apart (fork l r) apart (2 * suc i - 1) in
    let here = hit_same (name (fork l r)) (2 * suc i - 1) own in (
      (
        get_or-set_same C i v 0 room,
        kept-noted C i v l (apart-left l r apart) (omega arith) noted.0,
        kept-noted C i v r (apart-right l r apart) (omega arith) noted.1.0,
      ),
      kept-all C i v l r ts own (λ m. omega (arith, h.once m)) noted.1.1,
    )
