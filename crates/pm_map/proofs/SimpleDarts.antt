-- A structure is simple exactly where no dart's edge is a loop and none has a double; and if it isn't, for one reason.
use Rattle.std.proofs.Common.{◌≡◌, ◌↔◌, ℕ, ◌<◌, Bool, true, false, not, Option, Some, None, MatchOption, IsTrue, is_some, inl, inr, refl, sym, ◌∙◌, ap, subst}
use Rattle.std.proofs.lemmas.Bool.{cases_eq, false≢true}
use Rattle.pm_perm.proofs.LeastLemmas.{least_is_unique}
use Rattle.pm_map.specs.Structure.{Structure}
use Rattle.pm_map.specs.declared.simple.NotSimple.{NotSimple}
use Rattle.pm_map.specs.declared.simple.NotSimple.TheVariants.{Loop, Double}
use Rattle.pm_map.specs.Simple.{AreAtOneVertex, IsDouble, IsLoop, IsNotSimple, IsSimple}
use Rattle.pm_map.specs.ClassLaws.{DartsTellSimple}

-- the edge of a dart of a simple structure is no loop and has no double
simple_dart : (s : Structure) (d : ℕ) → d < s.darts → IsSimple s → (IsLoop s d → ⊥) × (IsDouble s d → ⊥)
simple_dart s d h simple = (
  simple.no_loop d h,
  λ double. elim (cases_eq double.other (s.twin d)) [
    | inl twin ↦ simple.no_loop d h (subst (AreAtOneVertex s d) twin double.near)
    | inr apart ↦ simple.no_double d double.other h double.within double.differs apart (inl (double.near, double.far))
  ],
)

pub darts_tell_simple : DartsTellSimple
darts_tell_simple s is = (
  λ simple d h. simple_dart s d h simple,
  λ none. record {
    no_loop = λ d h. (none d h).0;
    no_double = λ d e hd he differs other ends. elim ends [
      | inl straight ↦ (none d hd).1 (record { other = e; within = he; differs = differs; near = straight.0; far = straight.1 })
      | inr crossed ↦ (none d hd).1 (record {
        other = s.twin e;
        within = is.twin_stays e he;
        differs = λ same. other (sym (is.twin_back e he) ∙ ap s.twin same);
        near = crossed.0;
        far = subst (AreAtOneVertex s (s.twin d)) (sym (is.twin_back e he)) crossed.1;
      })
    ];
  },
)

-- what has a loop or a double isn't simple
pub not_simple : (s : Structure) (why : NotSimple) → IsNotSimple s why → IsSimple s → ⊥
not_simple s (Loop dart) why simple = (simple_dart s dart why.within simple).0 why.breaks
not_simple s (Double dart) why simple = (simple_dart s dart why.1.within simple).1 why.1.breaks

-- for one reason
pub not_simple_once : (s : Structure) (one other : NotSimple) → IsNotSimple s one → IsNotSimple s other → one ≡ other
not_simple_once s (Loop a) (Loop b) one other = ap Loop (least_is_unique s.darts (λ d. IsLoop s d → ⊥) (IsLoop s) (λ d no is. no is) a b one other)
not_simple_once s (Loop a) (Double b) one other = absurd (other.0 a one.within one.breaks)
not_simple_once s (Double a) (Loop b) one other = absurd (one.0 b other.within other.breaks)
not_simple_once s (Double a) (Double b) one other = ap Double (least_is_unique s.darts (λ d. IsDouble s d → ⊥) (IsDouble s) (λ d no is. no is) a b one.1 other.1)

-- so a structure is simple exactly where no reason is found
pub simple_if_none : (s : Structure) (found : Option NotSimple) (none : Bool) → MatchOption found (IsSimple s) (IsNotSimple s) → is_some found ≡ not none → IsTrue none ↔ IsSimple s
simple_if_none s None true h e = (λ _. h, λ _. refl)
simple_if_none s None false h e = absurd (false≢true e)
simple_if_none s (Some why) true h e = absurd (false≢true (sym e))
simple_if_none s (Some why) false h e = (λ never. absurd (false≢true never), λ simple. absurd (not_simple s why h simple))
