-- Kinds of nodes and their bud patterns.
use Rattle.std.proofs.Common.{◌≡◌, ℕ, ◌<◌, List, refl, sym, subst, arith}
use Rattle.pm_trees.specs.BudPattern.{HasRank, IsPattern}
use Rattle.pm_trees.proofs.Ranked.{patterns_ranked, half_some}
use Rattle.pm_planting.specs.Kinds.{HasKind, half_of}
use Rattle.pm_planting.specs.declared.kind.Kind.{Kind}
use Rattle.pm_planting.specs.declared.kind.Kind.TheVariants.{Leaf, Node}

pub kind_pattern : (kind : Kind) (pattern : List ℕ) → HasKind kind pattern → IsPattern (half_of kind) pattern
kind_pattern Leaf pattern p = absurd p
kind_pattern (Node half rank) pattern p = p.is_pattern

pub kind_some : (kind : Kind) (pattern : List ℕ) → HasKind kind pattern → 0 < half_of kind
kind_some kind pattern p = half_some (half_of kind) pattern (kind_pattern kind pattern p)

-- a leaf has no pattern
pub no_leaf : (kind : Kind) (pattern : List ℕ) → HasKind kind pattern → kind ≡ Leaf → ⊥
no_leaf kind pattern p e = subst (λ (k : Kind). HasKind k pattern) e p

pub no_node : (kind : Kind) → ((half rank : ℕ) → kind ≡ Node half rank → ⊥) → kind ≡ Leaf
no_node Leaf none = refl
no_node (Node half rank) none = absurd (none half rank refl)

pub kind_here : (half rank : ℕ) (kind : Kind) (pattern : List ℕ) → kind ≡ Node half rank → HasRank half pattern rank → HasKind kind pattern
kind_here half rank kind pattern e p = subst (λ (k : Kind). HasKind k pattern) (sym e) p

-- a kind has one pattern, and a pattern is of one kind
pub one_pattern : (kind : Kind) (pattern other : List ℕ) → HasKind kind pattern → HasKind kind other → pattern ≡ other
one_pattern Leaf pattern other p q = absurd p
one_pattern (Node half rank) pattern other p q = (patterns_ranked half (half_some half pattern p.is_pattern)).one_pattern pattern other rank p q

pub one_kind : (kind other : Kind) (pattern : List ℕ) → HasKind kind pattern → HasKind other pattern → kind ≡ other
one_kind Leaf other pattern p q = absurd p
one_kind (Node half rank) Leaf pattern p q = absurd q
one_kind (Node half rank) (Node other place) pattern p q =
    let halves : half ≡ other = (let a = p.is_pattern.as_long in let b = q.is_pattern.as_long in omega (arith, a, b)) in
    let ranks : rank ≡ place = (patterns_ranked other (half_some other pattern q.is_pattern)).one_rank pattern rank place (subst (λ (n : ℕ). HasRank n pattern rank) halves p) q in
    cc
