-- Parts that are read one behind the other.
use Rattle.std.proofs.Common.{◌≡◌, ℕ, ◌+◌, ◌<◌, suc, List, ◌∷◌, ◌++◌, length, map, drop, get_or, Ok, Err, refl, ap, sym, ◌∙◌, rules, arith, add-one, drop-cons}
use Rattle.std.proofs.lemmas.List.{append_assoc}
use Rattle.std.proofs.lemmas.List.Folds.{flat_map-map, length-flat_map-take}
use Rattle.loads.specs.declared.kinds.Load.{Ghosts}
use Rattle.sheet.specs.declared.faults.ReadError.{ReadError}
use Rattle.sheet.specs.declared.faults.ReadError.TheVariants.{Refused, NoMemory}
use Rattle.sheet.specs.declared.sections.Section.{Section}
use Rattle.sheet.specs.Faults.{and_then, Fails}
use Rattle.sheet.specs.Layouts.{octets_of}
use Rattle.sheet.specs.Parts.{PartState}
use Rattle.sheet.specs.Sections.{PartsRead, section_state, before, section_reads, sections_read}

-- the section at an index, before those behind it
section_at : (sections : List Section) (i : ℕ) (section : Section) → i < length sections → section ≡ get_or sections i section → drop i sections ≡ section ∷ drop (i + 1) sections
section_at sections i section less is = rw add-one (drop-cons sections i section less ∙ ap (λ first. first ∷ drop (suc i) sections) (sym is))

-- its octets are among those of all
pub octets_some : (sections : List Section) (i : ℕ) (section : Section) → i < length sections → section ≡ get_or sections i section
    → 0 < length section.octets.now → 0 < length (octets_of (map section_state sections))
octets_some sections i section less is some =
    let all = length-flat_map-take (λ section. (section_state section).octets) sections i section less in
    let here = ap (λ section. length section.octets.now) is in
    rw flat_map-map (omega (arith, all, here))

module _ {T : Type 0} where
  -- parts before parts
  pub before_before : (parts others : List (PartState T)) (read : PartsRead T) → before parts (before others read) ≡ before (parts ++ others) read
  before_before parts others (Ok more) = ap Ok (sym (append_assoc parts others more))
  before_before parts others (Err fault) = refl

  -- one section more is read
  pub section_more : (now more : List (PartState T)) (section others : PartsRead T) → before now section ≡ Ok more → before now (and_then section (λ parts. before parts others)) ≡ before more others
  section_more now more (Ok parts) others is = before_before now parts others ∙ ap (λ read. before read others) (search (rules, is))
  section_more now more (Err fault) others is = search rules

  -- the whole fails by the section that fails
  pub section_fails : (now : List (PartState T)) (section others whole : PartsRead T) (error : ReadError)
      → before now (and_then section (λ parts. before parts others)) ≡ whole → Fails section error → Fails whole error
  section_fails now section others whole (Refused fault) reads is = sym reads ∙ rw is refl
  section_fails now section others whole NoMemory reads is = tt

  -- by index
  pub sections_at : (kind : Ghosts T) (sections : List Section) (i : ℕ) (section : Section) → i < length sections → section ≡ get_or sections i section
      → sections_read kind (map section_state (drop i sections)) ≡ and_then (section_reads kind (section_state section)) (λ parts. before parts (sections_read kind (map section_state (drop (i + 1) sections))))
  sections_at kind sections i section less is = ap (λ sections. sections_read kind (map section_state sections)) (section_at sections i section less is)
