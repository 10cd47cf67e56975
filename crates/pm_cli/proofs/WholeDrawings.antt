-- Records of drawn lists: where each valid list is sampled, each drawn list has a record.
use Rattle.std.proofs.Common.{◌≡◌, ℕ, zero, suc, ◌+◌, List, [], ◌∷◌, ◌++◌, add-one, refl, sym, ap, ap₂, ◌∙◌, subst}
use Rattle.std.specs.Prelude.{codes}
use Rattle.rand_core.specs.Stream.{Stream}
use Rattle.pm_text.specs.Broken.{newline}
use Rattle.pm_lists.specs.ListLine.{AreWords, SpellsList, list_line}
use Rattle.pm_lists.specs.Valid.{AreBounds, IsValidList}
use Rattle.pm_lists.proofs.ValidWords.{valid_are_words}
use Rattle.pm_map.specs.Rotation.{RotationSystem}
use Rattle.pm_mapfile.proofs.CanonicalTexts.{canonical_has_text}
use Rattle.pm_draw.specs.Drawn.{generator_of, words_of, drawn}
use Rattle.pm_draw.proofs.ValidDraws.{GivesWords, generator_gives_words, drawn_is_valid}
use Rattle.pm_class.specs.Sampling.{EachListIsSampled}
use Rattle.pm_cli.specs.Drawing.{IsRecord, left_after, IsDrawnRecord}
use Rattle.pm_cli.specs.Records.{RecordsGoOn}
use Rattle.pm_cli.specs.Sampling.{IsChoicesLine, IsSampleText}
use Rattle.pm_cli.proofs.ChoicesLines.{line_of}
use Rattle.pm_cli.proofs.Records.{records_go_on}

-- the line of the choices, and the text that they give
pub record_made : (samples : List ℕ → RotationSystem → List ℕ → Type 0) (choices list before line rest text : List ℕ)
    → list ≡ choices → SpellsList (codes "choices") (list_line (codes "choices") list) list → IsSampleText samples list rest
    → before ≡ [] → line ≡ before ++ (list_line (codes "choices") list ++ newline ∷ []) → text ≡ line ++ rest → IsRecord samples choices text
record_made samples choices list before line rest text same spells is_rest none is_line whole =
    subst (λ (c : List ℕ). IsRecord samples c text) same (record {
      line = line;
      is_line = subst (IsChoicesLine list) (sym (is_line ∙ ap (λ (b : List ℕ). b ++ (list_line (codes "choices") list ++ newline ∷ [])) none)) (line_of (list_line (codes "choices") list) list spells);
      rest = rest;
      is_rest = is_rest;
      whole = whole;
    })

-- the stream that is left where no list is drawn, and where one more is
pub none_drawn : (bounds : List ℕ) (stream left : Stream) → left ≡ stream → left ≡ left_after bounds stream 0
unfolding left_after
none_drawn bounds stream left same = same

pub one_more_drawn : (bounds : List ℕ) (stream left after : Stream) (count : ℕ) → left ≡ left_after bounds stream count → after ≡ (drawn bounds left).1 → after ≡ left_after bounds stream (count + 1)
unfolding left_after
one_more_drawn bounds stream left after count so_far next = next ∙ ap (λ (s : Stream). (drawn bounds s).1) so_far ∙ ap (left_after bounds stream) (sym (add-one count))

module _ (bounds residues : List ℕ) (has : RotationSystem → Type 0) (samples : List ℕ → RotationSystem → List ℕ → Type 0)
    (each_sampled : EachListIsSampled bounds residues has samples) (some : AreBounds bounds) (fit : AreWords bounds) where
  -- each valid list of choices has a record
  has_record : (choices : List ℕ) → IsValidList choices bounds → (text : List ℕ) × IsRecord samples choices text
  has_record choices valid =
      let found = each_sampled choices valid in
      let map_text = canonical_has_text found.0.map found.1.canonical in
      let line = list_line (codes "choices") choices ++ newline ∷ [] in
      let rest = map_text.0 ++ list_line (codes "residue") found.0.residue ++ newline ∷ [] in (
        line ++ rest,
        record {
          line = line;
          is_line = record { fit = valid_are_words choices bounds valid fit; spelled = refl };
          rest = rest;
          is_rest = record {
            map = found.0.map;
            residue = found.0.residue;
            sampled = found.1.given;
            is_text = record { map_text = map_text.0; is_map_text = map_text.1; whole = refl };
          };
          whole = refl;
        },
      )

  -- what is left of a stream of words is one
  left_gives_words : (stream : Stream) (count : ℕ) → GivesWords stream → GivesWords (left_after bounds stream count)
  unfolding left_after
  left_gives_words stream zero gives = gives
  left_gives_words stream (suc count) gives = (drawn_is_valid bounds (left_after bounds stream count) some fit (left_gives_words stream count gives)).1

  pub drawn_records_go_on : (seed : ℕ) → RecordsGoOn (IsDrawnRecord bounds samples seed)
  drawn_records_go_on seed =
      records_go_on (IsDrawnRecord bounds samples seed) (λ place.
      let left = left_after bounds (words_of (generator_of seed)) place in
      has_record (drawn bounds left).0 (drawn_is_valid bounds left some fit (left_gives_words (words_of (generator_of seed)) place (generator_gives_words (generator_of seed)))).0)

-- a list has one record, where it has one text of its map and residue
pub one_record : (samples : List ℕ → RotationSystem → List ℕ → Type 0) → ((choices a b : List ℕ) → IsSampleText samples choices a → IsSampleText samples choices b → a ≡ b)
    → (choices a b : List ℕ) → IsRecord samples choices a → IsRecord samples choices b → a ≡ b
one_record samples one_text choices a b x y =
    x.whole ∙ ap₂ (λ (s t : List ℕ). s ++ t) (x.is_line.spelled ∙ sym y.is_line.spelled) (one_text choices x.rest y.rest x.is_rest y.is_rest) ∙ sym y.whole
