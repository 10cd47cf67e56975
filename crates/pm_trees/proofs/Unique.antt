-- There is one answer to a word.
use Rattle.std.proofs.Common.{◌≡◌, ℕ, List, Result, Ok, Err, refl, ap, sym, ◌∙◌, arith}
use Rattle.pm_trees.specs.declared.tree.Tree.{Tree}
use Rattle.pm_trees.specs.declared.tree.TreeRefusal.{TreeRefusal}
use Rattle.pm_trees.specs.declared.tree.TreeRefusal.TheVariants.{Memory, Text, TooMany, Degree, Buds}
use Rattle.pm_brackets.specs.First.{IsFirst}
use Rattle.pm_brackets.proofs.Least.{first_same}
use Rattle.pm_trees.specs.Word.{IsFault, contour}
use Rattle.pm_trees.specs.Node.{BreaksDegree, BreaksBuds}
use Rattle.pm_trees.specs.Blossoming.{IsBlossoming}
use Rattle.pm_trees.specs.Reading.{IsAnswer, IsTooLong, HasBadDegree, HasBadBuds, HasOneAnswer}
use Rattle.pm_trees.proofs.FourLetters.{no_fault}

-- the answers in the order of the rules, each with the rules that hold before it
ok_only : (word tree : List ℕ) (second : Result Tree TreeRefusal) → tree ≡ word → IsBlossoming word → IsAnswer word second → (second ≡ Err Memory → ⊥) → Ok tree ≡ second
ok_only word tree (Ok other) e t a n = ap Ok (e ∙ sym a.0)
ok_only word tree (Err (Text p)) e t a n = absurd (no_fault word p t.in_order a.here)
ok_only word tree (Err (TooMany m)) e t a n = absurd (let l = a.long in let s = t.short in omega arith)
ok_only word tree (Err (Degree p)) e t a n = absurd (a.first.here.breaks (t.degrees p a.first.here.is_node))
ok_only word tree (Err (Buds p)) e t a n = absurd (a.first.here.breaks (t.buds p a.first.here.is_node))
ok_only word tree (Err Memory) e t a n = absurd (n refl)

text_only : (word : List ℕ) (p : ℕ) (second : Result Tree TreeRefusal) → IsFirst (IsFault (contour word)) p → IsAnswer word second → (second ≡ Err Memory → ⊥) → Err (Text p) ≡ second
text_only word p (Ok other) h a n = absurd (no_fault word p a.1.in_order h.here)
text_only word p (Err (Text q)) h a n = ap (λ (k : ℕ). Err (Text k)) (first_same (IsFault (contour word)) p q h a)
text_only word p (Err (TooMany m)) h a n = absurd (no_fault word p a.in_order h.here)
text_only word p (Err (Degree q)) h a n = absurd (no_fault word p a.in_order h.here)
text_only word p (Err (Buds q)) h a n = absurd (no_fault word p a.in_order h.here)
text_only word p (Err Memory) h a n = absurd (n refl)

many_only : (word : List ℕ) (m : ℕ) (second : Result Tree TreeRefusal) → IsTooLong word m → IsAnswer word second → (second ≡ Err Memory → ⊥) → Err (TooMany m) ≡ second
many_only word m (Ok other) h a n = absurd (let l = h.long in let s = a.1.short in omega arith)
many_only word m (Err (Text q)) h a n = absurd (no_fault word q h.in_order a.here)
many_only word m (Err (TooMany k)) h a n = ap (λ (j : ℕ). Err (TooMany j)) (h.counted ∙ sym a.counted)
many_only word m (Err (Degree q)) h a n = absurd (let l = h.long in let s = a.short in omega arith)
many_only word m (Err (Buds q)) h a n = absurd (let l = h.long in let s = a.short in omega arith)
many_only word m (Err Memory) h a n = absurd (n refl)

degree_only : (word : List ℕ) (p : ℕ) (second : Result Tree TreeRefusal) → HasBadDegree word p → IsAnswer word second → (second ≡ Err Memory → ⊥) → Err (Degree p) ≡ second
degree_only word p (Ok other) h a n = absurd (h.first.here.breaks (a.1.degrees p h.first.here.is_node))
degree_only word p (Err (Text q)) h a n = absurd (no_fault word q h.in_order a.here)
degree_only word p (Err (TooMany m)) h a n = absurd (let l = a.long in let s = h.short in omega arith)
degree_only word p (Err (Degree q)) h a n = ap (λ (k : ℕ). Err (Degree k)) (first_same (BreaksDegree (contour word)) p q h.first a.first)
degree_only word p (Err (Buds q)) h a n = absurd (h.first.here.breaks (a.degrees p h.first.here.is_node))
degree_only word p (Err Memory) h a n = absurd (n refl)

buds_only : (word : List ℕ) (p : ℕ) (second : Result Tree TreeRefusal) → HasBadBuds word p → IsAnswer word second → (second ≡ Err Memory → ⊥) → Err (Buds p) ≡ second
buds_only word p (Ok other) h a n = absurd (h.first.here.breaks (a.1.buds p h.first.here.is_node))
buds_only word p (Err (Text q)) h a n = absurd (no_fault word q h.in_order a.here)
buds_only word p (Err (TooMany m)) h a n = absurd (let l = a.long in let s = h.short in omega arith)
buds_only word p (Err (Degree q)) h a n = absurd (a.first.here.breaks (h.degrees q a.first.here.is_node))
buds_only word p (Err (Buds q)) h a n = ap (λ (k : ℕ). Err (Buds k)) (first_same (BreaksBuds (contour word)) p q h.first a.first)
buds_only word p (Err Memory) h a n = absurd (n refl)

pub one_answer : HasOneAnswer
one_answer word (Ok tree) second a b n m = ok_only word tree second a.0 a.1 b m
one_answer word (Err (Text p)) second a b n m = text_only word p second a b m
one_answer word (Err (TooMany k)) second a b n m = many_only word k second a b m
one_answer word (Err (Degree p)) second a b n m = degree_only word p second a b m
one_answer word (Err (Buds p)) second a b n m = buds_only word p second a b m
one_answer word (Err Memory) second a b n m = absurd (n refl)
