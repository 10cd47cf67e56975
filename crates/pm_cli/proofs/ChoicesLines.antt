-- Files of choices are files of one line, and spell one list.
use Rattle.std.proofs.Common.{◌≡◌, ℕ, ◌^◌, ◌<◌, List, [], ◌∷◌, ◌++◌, refl, sym, ap, ◌∙◌, subst}
use Rattle.std.specs.Prelude.{codes}
use Rattle.std.proofs.lemmas.List.{append_cancel_right}
use Rattle.std.proofs.lemmas.List.Elements.{All-nil}
use Rattle.pm_text.specs.Broken.{newline}
use Rattle.pm_lists.specs.ListLine.{SpellsList, list_line}
use Rattle.pm_lists.proofs.SpellingLemmas.{tag_parts, has_one_line, spells_one_list, line_is_read_again, line_has_no_newline}
use Rattle.pm_cli.specs.Sampling.{IsChoicesLine, IsChoicesFile}
use Rattle.pm_cli.proofs.FirstLines.{IsLineForm}

-- files of choices have one line
pub choices_form : IsLineForm IsChoicesFile
choices_form = record {
  one = record {
    one_line = λ file valid. record {
      text = list_line (codes "choices") valid.0;
      no_newline = line_has_no_newline (codes "choices") valid.0 (tag_parts (codes "choices") refl) valid.1.fit;
      whole = valid.1.spelled;
    };
  };
  file = codes "choices\n";
  valid = ([], record { fit = record { each = All-nil (λ value. value < 2 ^ 64) }; spelled = refl });
}

-- a file spells one list of choices
pub one_choices : (bytes c d : List ℕ) → IsChoicesLine c bytes → IsChoicesLine d bytes → c ≡ d
one_choices bytes c d x y =
    let same : list_line (codes "choices") c ≡ list_line (codes "choices") d =
    append_cancel_right (list_line (codes "choices") c) (list_line (codes "choices") d) (newline ∷ []) (sym x.spelled ∙ y.spelled) in
    spells_one_list (codes "choices") (list_line (codes "choices") d) c d refl
    (subst (λ (line : List ℕ). SpellsList (codes "choices") line c) same (line_is_read_again (codes "choices") c x.fit)) (line_is_read_again (codes "choices") d y.fit)

-- the line of a list, with its newline
pub line_of : (text c : List ℕ) → SpellsList (codes "choices") text c → IsChoicesLine c (text ++ newline ∷ [])
line_of text c h =
    let one = (has_one_line (codes "choices") text c).0 h in
    record { fit = one.0; spelled = ap (λ (t : List ℕ). t ++ newline ∷ []) one.1 }

-- a line that spells no list is none of a file of choices
pub no_choices : (text : List ℕ) → ((c : List ℕ) → SpellsList (codes "choices") text c → ⊥) → IsChoicesFile (text ++ newline ∷ []) → ⊥
no_choices text none valid =
    let same : list_line (codes "choices") valid.0 ≡ text = append_cancel_right (list_line (codes "choices") valid.0) text (newline ∷ []) (sym valid.1.spelled) in
    none valid.0 (subst (λ (t : List ℕ). SpellsList (codes "choices") t valid.0) same (line_is_read_again (codes "choices") valid.0 valid.1.fit))
