-- The numbering of a tree's forks, level by level.
use Rattle.std.proofs.Common.{◌≡◌, ℕ, suc, ◌+◌, ◌-◌, ◌*◌, ◌%◌, ◌<◌, ◌≤◌, ◌≢◌, ◌⊎◌, List, [], ◌∷◌, ◌++◌, length, drop, slice_index, refl, sym, subst, ap, ◌∙◌, inl, inr, arith, drop-cons, length-append, length-drop}
use Rattle.std.proofs.lemmas.Bool.{cases_lt, cases_eq}
use Rattle.std.proofs.lemmas.List.{get_or_append_left, get_or_push, length_push, drop-append-le}
use Rattle.pm_remy.specs.Tree.{Tree, leaf, fork, labels_of, leaves}
use Rattle.pm_remy.specs.steps.Linked.{IsTied, IsHeld}

-- the number of forks of a tree, and of several
abbrev pub forks_of : Tree → ℕ
forks_of (leaf m) = 0
forks_of (fork l r) = suc (forks_of l + forks_of r)

abbrev pub forks_of_all : List Tree → ℕ
forks_of_all [] = 0
forks_of_all (t ∷ ts) = forks_of t + forks_of_all ts

pub forks-leaves : (t : Tree) → suc (forks_of t) ≡ leaves t
forks-leaves (leaf m) = refl
forks-leaves (fork l r) = omega (arith, forks-leaves l, forks-leaves r, length-append (labels_of l) (labels_of r))

forks-push : (ts : List Tree) (t : Tree) → forks_of_all (ts ++ t ∷ []) ≡ forks_of_all ts + forks_of t
forks-push [] t = omega arith
forks-push (u ∷ ts) t = omega (arith, forks-push ts t)

-- the forks that wait, each held from its number on
abbrev pub AreForks : (ℕ → ℕ) → ℕ → List ℕ → List Tree → Type 0
AreForks links bound [] [] = Unit {0}
AreForks links bound [] (t ∷ ts) = ⊥
AreForks links bound (h ∷ hs) [] = ⊥
AreForks links bound (h ∷ hs) (t ∷ ts) = (h % 2 ≡ 1) × IsTied links bound h t × AreForks links bound hs ts

forks-some : (links : ℕ → ℕ) (bound h : ℕ) (t : Tree) → h % 2 ≡ 1 → IsTied links bound h t → 1 ≤ forks_of t
forks-some links bound h (leaf m) odd tied = absurd (omega (arith, tied))
forks-some links bound h (fork l r) odd tied = omega arith

forks-many : (links : ℕ → ℕ) (bound : ℕ) (hs : List ℕ) (ts : List Tree) → AreForks links bound hs ts → length hs ≤ forks_of_all ts
forks-many links bound [] [] a = omega arith
forks-many links bound [] (t ∷ ts) a = absurd a
forks-many links bound (h ∷ hs) [] a = absurd a
forks-many links bound (h ∷ hs) (t ∷ ts) a = omega (arith, forks-some links bound h t a.0 a.1, forks-many links bound hs ts a.2)

forks-none : (links : ℕ → ℕ) (bound : ℕ) (hs : List ℕ) (ts : List Tree) → AreForks links bound hs ts → length hs ≡ 0 → forks_of_all ts ≡ 0
forks-none links bound [] [] a e = refl
forks-none links bound [] (t ∷ ts) a e = absurd a
forks-none links bound (h ∷ hs) ts a e = absurd (omega arith)

forks-more : (links : ℕ → ℕ) (bound : ℕ) (hs : List ℕ) (ts : List Tree) (h : ℕ) (t : Tree) → AreForks links bound hs ts → h % 2 ≡ 1 → IsTied links bound h t
    → AreForks links bound (hs ++ h ∷ []) (ts ++ t ∷ [])
forks-more links bound [] [] h t a odd tied = (odd, tied, tt)
forks-more links bound [] (u ∷ ts) h t a odd tied = absurd a
forks-more links bound (x ∷ hs) [] h t a odd tied = absurd a
forks-more links bound (x ∷ hs) (u ∷ ts) h t a odd tied = (a.0, a.1, forks-more links bound hs ts h t a.2 odd tied)

-- the new number of a node: a leaf's own, or the one of its place among the forks
abbrev pub StandsFor : List ℕ → ℕ → ℕ → Type 0
StandsFor F v w = ((v % 2 ≡ 0) × (w ≡ v)) ⊎ ((v % 2 ≡ 1) × ((i : ℕ) × ((i < length F) × ((slice_index F i ≡ v) × (w ≡ 2 * i + 1)))))

-- what a call of `numbered` does
pub record IsNumbered (F G : List ℕ) (v w : ℕ) : Type 0 where
  pub even : v % 2 ≡ 0 → (w ≡ v) × (G ≡ F)
  pub odd : v % 2 ≢ 0 → (w ≡ 2 * length F + 1) × (G ≡ F ++ v ∷ [])

-- the forks that were met have their two sides in the new list, and the others wait
pub record AreMet (L F T : List ℕ) (met : ℕ) : Type 0 where
  pub long : length T ≡ 2 * met + 1
  pub root : StandsFor F (slice_index L 0) (slice_index T 0)
  pub left : (j : ℕ) → j < met → StandsFor F (slice_index L (slice_index F j)) (slice_index T (2 * j + 1))
  pub right : (j : ℕ) → j < met → StandsFor F (slice_index L (suc (slice_index F j))) (slice_index T (suc (2 * j + 1)))

-- the forks before stay
pub length-numbered : (F G : List ℕ) (v w : ℕ) → IsNumbered F G v w → length F ≤ length G
length-numbered F G v w n =
    elim (cases_eq (v % 2) 0) [
      | inl e ↦ omega (arith, ap length (n.even e).1)
      | inr e ↦ omega (arith, ap length (n.odd e).1, length_push F v)
    ]

prefix-numbered : (F G : List ℕ) (v w j : ℕ) → IsNumbered F G v w → j < length F → slice_index G j ≡ slice_index F j
prefix-numbered F G v w j n q =
    elim (cases_eq (v % 2) 0) [
      | inl e ↦ ap (λ (xs : List ℕ). slice_index xs j) (n.even e).1
      | inr e ↦ ap (λ (xs : List ℕ). slice_index xs j) (n.odd e).1 ∙ get_or_append_left F (v ∷ []) 0 j q
    ]

stands-kept : (F G : List ℕ) (v w a b : ℕ) → IsNumbered F G v w → StandsFor F a b → StandsFor G a b
stands-kept F G v w a b n s =
    elim s [
      | inl e ↦ inl e
      | inr o ↦ inr (o.0, (o.1.0, (omega (arith, o.1.1.0, length-numbered F G v w n), (prefix-numbered F G v w o.1.0 n o.1.1.0 ∙ o.1.1.1.0, o.1.1.1.1))))
    ]

stands-new : (F G : List ℕ) (v w : ℕ) → IsNumbered F G v w → StandsFor G v w
stands-new F G v w n =
    elim (cases_eq (v % 2) 0) [
      | inl e ↦ inl (e, (n.even e).0)
      | inr e ↦ let pushed = (n.odd e).1 in
          inr (
            omega arith,
            (
              length F,
              (
                omega (arith, ap length pushed, length_push F v),
                (ap (λ (xs : List ℕ). slice_index xs (length F)) pushed ∙ get_or_push F v 0 (length F) refl, (n.odd e).0),
              ),
            ),
          )
    ]

stands-at : (F : List ℕ) (a b c d : ℕ) → a ≡ c → b ≡ d → StandsFor F a b → StandsFor F c d
stands-at F a b c d e f s = subst (λ (x : ℕ). StandsFor F x d) e (subst (λ (y : ℕ). StandsFor F a y) f s)

-- at the start the root is numbered
pub met-start : (L G : List ℕ) (w : ℕ) → IsNumbered [] G (slice_index L 0) w → AreMet L G (w ∷ []) 0
met-start L G w n =
    record {
      long = refl;
      root = stands-new [] G (slice_index L 0) w n;
      left = λ j q. absurd (omega arith);
      right = λ j q. absurd (omega arith);
    }

-- the next fork is met, and its sides are numbered
pub record AreSidesNumbered (L F G H T V : List ℕ) (met w x : ℕ) : Type 0 where
  pub some : met < length F
  pub first : IsNumbered F G (slice_index L (slice_index F met)) w
  pub second : IsNumbered G H (slice_index L (suc (slice_index F met))) x
  pub pushed : V ≡ (T ++ w ∷ []) ++ x ∷ []

pub met-step : (L F G H T V : List ℕ) (met w x : ℕ) → AreMet L F T met → AreSidesNumbered L F G H T V met w x → AreMet L H V (suc met)
met-step L F G H T V met w x m s =
    let v = slice_index L (slice_index F met) in
    let u = slice_index L (suc (slice_index F met)) in
    let U = T ++ w ∷ [] in
    let long = m.long in
    let ulong : length U ≡ 2 * met + 2 = omega (arith, length_push T w) in
    let prefix : (j : ℕ) → j < length F → slice_index F j ≡ slice_index H j = λ j q.
    sym (prefix-numbered G H u x j s.second (omega (arith, length-numbered F G v w s.first)) ∙ prefix-numbered F G v w j s.first q) in
    let keeps : (a b : ℕ) → StandsFor F a b → StandsFor H a b = λ a b h. stands-kept G H u x a b s.second (stands-kept F G v w a b s.first h) in
    let old : (j : ℕ) → j < length T → slice_index T j ≡ slice_index V j = λ j q.
    sym (ap (λ (xs : List ℕ). slice_index xs j) s.pushed ∙ (get_or_append_left U (x ∷ []) 0 j (omega arith) ∙ get_or_append_left T (w ∷ []) 0 j q)) in
    let low : w ≡ slice_index V (2 * met + 1) =
    sym (ap (λ (xs : List ℕ). slice_index xs (2 * met + 1)) s.pushed ∙ (get_or_append_left U (x ∷ []) 0 (2 * met + 1) (omega arith) ∙ get_or_push T w 0 (2 * met + 1) long)) in
    let high : x ≡ slice_index V (suc (2 * met + 1)) =
    sym (ap (λ (xs : List ℕ). slice_index xs (suc (2 * met + 1))) s.pushed ∙ get_or_push U x 0 (suc (2 * met + 1)) (omega arith)) in
    let here = prefix met s.some in
    record {
      long = omega (arith, ap length s.pushed, length_push U x);
      root = stands-at H (slice_index L 0) (slice_index T 0) (slice_index L 0) (slice_index V 0) refl (old 0 (omega arith)) (keeps (slice_index L 0) (slice_index T 0) m.root);
      left = λ j q. elim (cases_lt j met) [
        | inl i ↦ stands-at H (slice_index L (slice_index F j)) (slice_index T (2 * j + 1)) (slice_index L (slice_index H j)) (slice_index V (2 * j + 1))
            (ap (slice_index L) (prefix j (omega (arith, s.some)))) (old (2 * j + 1) (omega arith)) (keeps (slice_index L (slice_index F j)) (slice_index T (2 * j + 1)) (m.left j i))
        | inr i ↦ let e : met ≡ j = omega arith in
            subst (λ (n : ℕ). StandsFor H (slice_index L (slice_index H n)) (slice_index V (2 * n + 1))) e
            (stands-at H v w (slice_index L (slice_index H met)) (slice_index V (2 * met + 1)) (ap (slice_index L) here) low (stands-kept G H u x v w s.second (stands-new F G v w s.first)))
      ];
      right = λ j q. elim (cases_lt j met) [
        | inl i ↦ stands-at H (slice_index L (suc (slice_index F j))) (slice_index T (suc (2 * j + 1))) (slice_index L (suc (slice_index H j))) (slice_index V (suc (2 * j + 1)))
            (ap (λ (y : ℕ). slice_index L (suc y)) (prefix j (omega (arith, s.some)))) (old (suc (2 * j + 1)) (omega arith)) (keeps (slice_index L (suc (slice_index F j))) (slice_index T (suc (2 * j + 1))) (m.right j i))
        | inr i ↦ let e : met ≡ j = omega arith in
            subst (λ (n : ℕ). StandsFor H (slice_index L (suc (slice_index H n))) (slice_index V (suc (2 * n + 1)))) e
            (stands-at H u x (slice_index L (suc (slice_index H met))) (slice_index V (suc (2 * met + 1))) (ap (λ (y : ℕ). slice_index L (suc y)) here) high (stands-new G H u x s.second))
      ];
    }

-- the forks that wait after a node is numbered
pub record AreQueued (L F : List ℕ) (n sum : ℕ) : Type 0 where
  pub low : n ≤ length F
  pub trees : List Tree
  pub forks : AreForks (slice_index L) (length L) (drop n F) trees
  pub total : n + forks_of_all trees ≡ sum

leaf-tied : (links : ℕ → ℕ) (bound v : ℕ) (u : Tree) → v % 2 ≡ 0 → IsTied links bound v u → forks_of u ≡ 0
leaf-tied links bound v (leaf m) e h = refl
leaf-tied links bound v (fork l r) e h = absurd (omega (arith, h.0))

queued : (L F G : List ℕ) (n sum v w : ℕ) (u : Tree) → AreQueued L F n sum → IsNumbered F G v w → IsTied (slice_index L) (length L) v u → AreQueued L G n (sum + forks_of u)
queued L F G n sum v w u q m tied =
    elim (cases_eq (v % 2) 0) [
      | inl e ↦ let none = leaf-tied (slice_index L) (length L) v u e tied in
          record {
            low = omega (arith, q.low, length-numbered F G v w m);
            trees = q.trees;
            forks = subst (λ (xs : List ℕ). AreForks (slice_index L) (length L) (drop n xs) q.trees) (sym (m.even e).1) q.forks;
            total = omega (arith, q.total);
          }
      | inr e ↦ record {
        low = omega (arith, q.low, length-numbered F G v w m);
        trees = q.trees ++ u ∷ [];
        forks = subst (λ (xs : List ℕ). AreForks (slice_index L) (length L) xs (q.trees ++ u ∷ [])) (sym (ap (drop n) (m.odd e).1 ∙ drop-append-le n F (v ∷ []) q.low))
            (forks-more (slice_index L) (length L) (drop n F) q.trees v u q.forks (omega arith) tied);
        total = omega (arith, q.total, forks-push q.trees u);
      }
    ]

pub record IsNextFork (L F : List ℕ) (t : Tree) (met : ℕ) : Type 0 where
  pub left : Tree
  pub right : Tree
  pub low : suc (slice_index F met) < length L
  pub left_tied : IsTied (slice_index L) (length L) (slice_index L (slice_index F met)) left
  pub right_tied : IsTied (slice_index L) (length L) (slice_index L (suc (slice_index F met))) right
  pub rest : AreQueued L F (suc met) (forks_of t - forks_of left - forks_of right)
  pub total : forks_of left + forks_of right ≤ forks_of t

next-of : (L F : List ℕ) (t : Tree) (met : ℕ) (ts : List Tree) → met < length F → AreForks (slice_index L) (length L) (slice_index F met ∷ drop (suc met) F) ts → met + forks_of_all ts ≡ forks_of t
    → IsNextFork L F t met
next-of L F t met [] q a e = absurd a
next-of L F t met (leaf m ∷ ts) q a e = absurd (omega (arith, a.0, a.1))
next-of L F t met (fork l r ∷ ts) q a e =
    record {
      left = l;
      right = r;
      low = a.1.1;
      left_tied = a.1.2;
      right_tied = a.1.3;
      rest = record { low = q; trees = ts; forks = a.2; total = omega arith };
      total = omega arith;
    }

pub next-fork : (L F : List ℕ) (t : Tree) (met : ℕ) → met < length F → AreQueued L F met (forks_of t) → IsNextFork L F t met
next-fork L F t met q a = next-of L F t met a.trees q (subst (λ (xs : List ℕ). AreForks (slice_index L) (length L) xs a.trees) (drop-cons F met 0 q) a.forks) a.total

pub waiting-first : (L F G : List ℕ) (t : Tree) (met w : ℕ) (k : IsNextFork L F t met) → IsNumbered F G (slice_index L (slice_index F met)) w
    → AreQueued L G (suc met) (forks_of t - forks_of k.right)
waiting-first L F G t met w k n =
    let all = queued L F G (suc met) (forks_of t - forks_of k.left - forks_of k.right) (slice_index L (slice_index F met)) w k.left k.rest n k.left_tied in
    record { low = all.low; trees = all.trees; forks = all.forks; total = omega (arith, all.total, k.total) }

pub waiting-step : (L F G H : List ℕ) (t : Tree) (met w x : ℕ) → met < length F → AreQueued L F met (forks_of t) → IsNumbered F G (slice_index L (slice_index F met)) w
    → IsNumbered G H (slice_index L (suc (slice_index F met))) x → AreQueued L H (suc met) (forks_of t)
waiting-step L F G H t met w x q a n o =
    let k = next-fork L F t met q a in
    let all = queued L G H (suc met) (forks_of t - forks_of k.right) (slice_index L (suc (slice_index F met))) x k.right (waiting-first L F G t met w k n) o k.right_tied in
    record { low = all.low; trees = all.trees; forks = all.forks; total = omega (arith, all.total, k.total) }

pub waiting-start : (L G : List ℕ) (t : Tree) (w : ℕ) → IsHeld L t → IsNumbered [] G (slice_index L 0) w → AreQueued L G 0 (forks_of t)
waiting-start L G t w h n =
    let none : AreQueued L [] 0 0 = record { low = omega arith; trees = []; forks = tt; total = refl } in
    let all = queued L [] G 0 0 (slice_index L 0) w t none n h.tied in
    record { low = all.low; trees = all.trees; forks = all.forks; total = omega (arith, all.total) }

-- there are no more forks in the queue than in the tree
pub queued-few : (L F : List ℕ) (n sum : ℕ) → AreQueued L F n sum → length F ≤ sum
queued-few L F n sum q = omega (arith, q.low, q.total, forks-many (slice_index L) (length L) (drop n F) q.trees q.forks, length-drop n F)

-- at the end the new list holds the tree
numbered-tied : (L F T : List ℕ) (bound met v w : ℕ) (t : Tree) → AreMet L F T met → length F ≤ met → StandsFor F v w → IsTied (slice_index L) bound v t → IsTied (slice_index T) (length T) w t
numbered-tied L F T bound met v w (leaf m) a q s h =
    elim s [
      | inl e ↦ e.1 ∙ h
      | inr o ↦ absurd (omega (arith, o.0))
    ]
numbered-tied L F T bound met v w (fork l r) a q s h =
    elim s [
      | inl e ↦ absurd (omega (arith, e.0, h.0))
      | inr o ↦ let i = o.1.0 in
          let at : slice_index F i ≡ v = o.1.1.1.0 in
          let number : 2 * i + 1 ≡ w = sym o.1.1.1.1 in
          let below : i < length F = o.1.1.0 in
          let long = a.long in
          subst (λ (y : ℕ). IsTied (slice_index T) (length T) y (fork l r)) number (
            omega arith,
            omega arith,
            numbered-tied L F T bound met (slice_index L (slice_index F i)) (slice_index T (2 * i + 1)) l a q (a.left i (omega arith))
                (subst (λ (y : ℕ). IsTied (slice_index L) bound (slice_index L y) l) (sym at) h.2),
            numbered-tied L F T bound met (slice_index L (suc (slice_index F i))) (slice_index T (suc (2 * i + 1))) r a q (a.right i (omega arith))
                (subst (λ (y : ℕ). IsTied (slice_index L) bound (slice_index L (suc y)) r) (sym at) h.3),
          )
    ]

pub held-leveled : (L F T : List ℕ) (met : ℕ) (t : Tree) → AreMet L F T met → length F ≤ met → AreQueued L F met (forks_of t) → IsHeld L t → IsHeld T t
held-leveled L F T met t a q w h =
    let long = a.long in
    record {
      tied = numbered-tied L F T (length L) met (slice_index L 0) (slice_index T 0) t a q a.root h.tied;
      once = h.once;
      room = omega (arith, w.total, forks-none (slice_index L) (length L) (drop met F) w.trees w.forks (omega (arith, length-drop met F)), forks-leaves t);
    }
