-- There is one answer to a list of pairs, and one to a table of counts.
use Rattle.std.proofs.Common.{◌≡◌, ℕ, zero, suc, ◌<◌, List, slice_index, Result, Ok, Err, refl, ap, sym, ◌∙◌, subst, arith}
use Rattle.pm_trees.specs.declared.profile.Profile.{Profile}
use Rattle.pm_trees.specs.declared.profile.ProfileRefusal.{ProfileRefusal}
use Rattle.pm_trees.specs.declared.profile.ProfileRefusal.TheVariants.{Memory, Pair, TooMany}
use Rattle.pm_brackets.specs.First.{IsFirst}
use Rattle.pm_trees.specs.Degrees.{AreListed}
use Rattle.pm_trees.specs.Pairs.{ArePairs, BreaksPair, IsProfile, pair_at}
use Rattle.pm_trees.specs.Pairs.BreaksPair.{empty, wrong}
use Rattle.pm_trees.specs.Profile.{HasTooMany, IsProfileAnswer, IsTableAnswer, PairsHaveOneAnswer, TableHasOneAnswer}
use Rattle.pm_trees.proofs.CountedPairs.{AreCounted, one_counted}
use Rattle.pm_brackets.proofs.Least.{first_same}

-- pairs that are right break no rule
no_break : (pairs : List (ℕ × ℕ)) (place : ℕ) → ArePairs pairs → BreaksPair pairs place → ⊥
no_break pairs place are (empty none _) = let some = are.some in omega arith
no_break pairs place are (wrong within not_right) = not_right (are.right place within)

-- the answers in the order of the rules, each with the rules that hold before it
ok_only : (pairs profile : List (ℕ × ℕ)) (second : Result Profile ProfileRefusal) → profile ≡ pairs → IsProfile pairs → IsProfileAnswer pairs second → (second ≡ Err Memory → ⊥) → Ok profile ≡ second
ok_only pairs profile (Ok other) e is a n = ap Ok (e ∙ sym a.0)
ok_only pairs profile (Err (Pair p)) e is a n = absurd (no_break pairs p is.are_pairs a.here)
ok_only pairs profile (Err (TooMany m)) e is a n = absurd (let few = is.few in omega (arith, a.counted, a.many))
ok_only pairs profile (Err Memory) e is a n = absurd (n refl)

pair_only : (pairs : List (ℕ × ℕ)) (p : ℕ) (second : Result Profile ProfileRefusal) → IsFirst (BreaksPair pairs) p → IsProfileAnswer pairs second → (second ≡ Err Memory → ⊥) → Err (Pair p) ≡ second
pair_only pairs p (Ok other) h a n = absurd (no_break pairs p a.1.are_pairs h.here)
pair_only pairs p (Err (Pair q)) h a n = ap (λ (k : ℕ). Err (Pair k)) (first_same (BreaksPair pairs) p q h a)
pair_only pairs p (Err (TooMany m)) h a n = absurd (no_break pairs p a.are_pairs h.here)
pair_only pairs p (Err Memory) h a n = absurd (n refl)

many_only : (pairs : List (ℕ × ℕ)) (m : ℕ) (second : Result Profile ProfileRefusal) → HasTooMany pairs m → IsProfileAnswer pairs second → (second ≡ Err Memory → ⊥) → Err (TooMany m) ≡ second
many_only pairs m (Ok other) h a n = absurd (let few = a.1.few in omega (arith, h.counted, h.many))
many_only pairs m (Err (Pair q)) h a n = absurd (no_break pairs q h.are_pairs a.here)
many_only pairs m (Err (TooMany k)) h a n = ap (λ (j : ℕ). Err (TooMany j)) (h.counted ∙ sym a.counted)
many_only pairs m (Err Memory) h a n = absurd (n refl)

pub pairs_once : PairsHaveOneAnswer
pairs_once pairs (Ok profile) second a b n m = ok_only pairs profile second a.0 a.1 b m
pairs_once pairs (Err (Pair p)) second a b n m = pair_only pairs p second a b m
pairs_once pairs (Err (TooMany k)) second a b n m = many_only pairs k second a b m
pairs_once pairs (Err Memory) second a b n m = absurd (n refl)

-- what a table counts from 1 on
tabled : List ℕ → ℕ → ℕ
tabled counts zero = 0
tabled counts (suc d) = slice_index counts (suc d)

tabled_is : (counts : List ℕ) (d : ℕ) → 0 < d → tabled counts d ≡ slice_index counts d
unfolding tabled
tabled_is counts zero some = absurd (omega arith)
tabled_is counts (suc d) some = refl

positive : (counts : List ℕ) (d : ℕ) → 0 < tabled counts d → 0 < d
unfolding tabled
positive counts zero some = absurd (omega arith)
positive counts (suc d) some = omega arith

tabled_pairs : (counts : List ℕ) (pairs : List (ℕ × ℕ)) → AreListed counts pairs → AreCounted (tabled counts) pairs
tabled_pairs counts pairs listed = record {
  rising = listed.rising;
  some = listed.some;
  counted = λ k l. listed.counted k l ∙ sym (tabled_is counts (pair_at pairs k).0 (let r = listed.rising k l in omega arith));
  all = λ d some. listed.all d (positive counts d some) (subst (λ (n : ℕ). 0 < n) (tabled_is counts d (positive counts d some)) some);
}

-- a table has one list of pairs
one_listing : (counts : List ℕ) (one two : List (ℕ × ℕ)) → AreListed counts one → AreListed counts two → one ≡ two
one_listing counts one two a b = one_counted (tabled counts) (tabled counts) one two (λ d. refl) (tabled_pairs counts one a) (tabled_pairs counts two b)

-- the pairs that an answer to a table speaks of
record SpeaksOf (counts : List ℕ) (answer : Result Profile ProfileRefusal) : Type 0 where
  pairs : List (ℕ × ℕ)
  listed : AreListed counts pairs
  answers : IsProfileAnswer pairs answer

speaks_of : (counts : List ℕ) (answer : Result Profile ProfileRefusal) → IsTableAnswer counts answer → (answer ≡ Err Memory → ⊥) → SpeaksOf counts answer
speaks_of counts (Ok profile) a n = record { pairs = profile; listed = a.0; answers = (refl, a.1) }
speaks_of counts (Err (Pair p)) a n = record { pairs = a.0; listed = a.1; answers = a.2 }
speaks_of counts (Err (TooMany m)) a n = record { pairs = a.0; listed = a.1; answers = a.2 }
speaks_of counts (Err Memory) a n = absurd (n refl)

pub table_once : TableHasOneAnswer
table_once counts first second a b n m =
    let one = speaks_of counts first a n in
    let two = speaks_of counts second b m in
    let same = one_listing counts one.pairs two.pairs one.listed two.listed in
    pairs_once two.pairs first second (subst (λ (pairs : List (ℕ × ℕ)). IsProfileAnswer pairs first) same one.answers) two.answers n m
