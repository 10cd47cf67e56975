-- There is one answer to a word.
use Rattle.std.proofs.Common.{◌≡◌, ℕ, List, Result, Ok, Err, refl, ap, sym, ◌∙◌, arith}
use Rattle.pm_brackets.specs.First.{IsFirst}
use Rattle.pm_brackets.proofs.Least.{first_same}
use Rattle.pm_tri.specs.declared.tree.TriTree.{TriTree}
use Rattle.pm_tri.specs.declared.tree.TriTreeRefusal.{TriTreeRefusal}
use Rattle.pm_tri.specs.declared.tree.TriTreeRefusal.TheVariants.{Memory, Text, TooMany, Stems}
use Rattle.pm_tri.specs.StemTree.{BreaksStems, IsFault, IsStemTree, contour}
use Rattle.pm_tri.specs.Reading.{HasBadStems, HasOneAnswer, IsAnswer, IsTooLong}
use Rattle.pm_tri.proofs.StemLetters.{no_fault}

-- the answers in the order of the rules, each with the rules that hold before it
ok_only : (word tree : List ℕ) (second : Result TriTree TriTreeRefusal) → tree ≡ word → IsStemTree word → IsAnswer word second → (second ≡ Err Memory → ⊥) → Ok tree ≡ second
ok_only word tree (Ok other) e t a n = ap Ok (e ∙ sym a.0)
ok_only word tree (Err (Text p)) e t a n = absurd (no_fault word p t.in_order a.here)
ok_only word tree (Err (TooMany m)) e t a n = absurd (let l = a.long in let s = t.short in omega arith)
ok_only word tree (Err (Stems p)) e t a n = absurd (a.first.here.breaks (t.stems p a.first.here.is_node))
ok_only word tree (Err Memory) e t a n = absurd (n refl)

text_only : (word : List ℕ) (p : ℕ) (second : Result TriTree TriTreeRefusal) → IsFirst (IsFault (contour word)) p → IsAnswer word second → (second ≡ Err Memory → ⊥) → Err (Text p) ≡ second
text_only word p (Ok other) h a n = absurd (no_fault word p a.1.in_order h.here)
text_only word p (Err (Text q)) h a n = ap (λ (k : ℕ). Err (Text k)) (first_same (IsFault (contour word)) p q h a)
text_only word p (Err (TooMany m)) h a n = absurd (no_fault word p a.in_order h.here)
text_only word p (Err (Stems q)) h a n = absurd (no_fault word p a.in_order h.here)
text_only word p (Err Memory) h a n = absurd (n refl)

many_only : (word : List ℕ) (m : ℕ) (second : Result TriTree TriTreeRefusal) → IsTooLong word m → IsAnswer word second → (second ≡ Err Memory → ⊥) → Err (TooMany m) ≡ second
many_only word m (Ok other) h a n = absurd (let l = h.long in let s = a.1.short in omega arith)
many_only word m (Err (Text q)) h a n = absurd (no_fault word q h.in_order a.here)
many_only word m (Err (TooMany k)) h a n = ap (λ (j : ℕ). Err (TooMany j)) (h.counted ∙ sym a.counted)
many_only word m (Err (Stems q)) h a n = absurd (let l = h.long in let s = a.short in omega arith)
many_only word m (Err Memory) h a n = absurd (n refl)

stems_only : (word : List ℕ) (p : ℕ) (second : Result TriTree TriTreeRefusal) → HasBadStems word p → IsAnswer word second → (second ≡ Err Memory → ⊥) → Err (Stems p) ≡ second
stems_only word p (Ok other) h a n = absurd (h.first.here.breaks (a.1.stems p h.first.here.is_node))
stems_only word p (Err (Text q)) h a n = absurd (no_fault word q h.in_order a.here)
stems_only word p (Err (TooMany m)) h a n = absurd (let l = a.long in let s = h.short in omega arith)
stems_only word p (Err (Stems q)) h a n = ap (λ (k : ℕ). Err (Stems k)) (first_same (BreaksStems (contour word)) p q h.first a.first)
stems_only word p (Err Memory) h a n = absurd (n refl)

pub one_answer : HasOneAnswer
one_answer word (Ok tree) second a b n m = ok_only word tree second a.0 a.1 b m
one_answer word (Err (Text p)) second a b n m = text_only word p second a b m
one_answer word (Err (TooMany k)) second a b n m = many_only word k second a b m
one_answer word (Err (Stems p)) second a b n m = stems_only word p second a b m
one_answer word (Err Memory) second a b n m = absurd (n refl)
