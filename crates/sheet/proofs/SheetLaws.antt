-- What the sheets of each kind of load have.
use Rattle.std.proofs.Common.{◌≡◌, ℕ, ◌<◌, List, Ok, Some, get_or, slice_index, subst, refl, ap, sym, ◌∙◌, rules, tests, arith}
use Rattle.std.proofs.lemmas.List.Elements.{All-from_get_or}
use Rattle.loads.specs.declared.kinds.Load.{Ghosts}
use Rattle.loads.specs.Pieces.{pieces}
use Rattle.loads.specs.Readings.{readings}
use Rattle.sheet.specs.declared.layouts.LoadKind.{LoadKind}
use Rattle.sheet.specs.declared.layouts.LoadKind.TheVariants.{Reading, Piece}
use Rattle.sheet.specs.Conditions.{HasNoLoad, octet_of, HasNoLoadOf}
use Rattle.sheet.specs.Layouts.{LayoutState, kind_at, lists_of, trailer_of, book_octets, layout_reads}
use Rattle.sheet.specs.Sheets.{SheetParts, sheet_read}
use Rattle.sheet.specs.Spellings.{IsSpelled}
use Rattle.sheet.proofs.FirstFaults.{kind_octet, same_kind, Verdict, sheet_verdict}
use Rattle.sheet.proofs.LayoutLaws.{layout_read, sheet_spelled}
use Rattle.sheet.proofs.OctetLaws.{AreOctets}
use Rattle.sheet.proofs.RecordLaws.{IsSized}

-- octets are below 256
pub octets_below : (octets : List ℕ) → ((i : ℕ) → get_or octets i 0 < 256) → AreOctets octets
octets_below octets below = All-from_get_or (λ octet. octet < 256) octets 0 (λ i less. below i)

-- the loads that a kind names
pub record IsKindOf {T : Type 0} (loads : LoadKind) (kind : Ghosts T) : Type 0 where
  pub octet : octet_of loads ≡ kind.KIND
  pub sized : IsSized kind
  pub some : 0 < kind.SIZE
  pub there : (book : List ℕ) (place : ℕ) → HasNoLoadOf loads book place → HasNoLoad kind 0 book place
  pub back : (book : List ℕ) (place : ℕ) → HasNoLoad kind 0 book place → HasNoLoadOf loads book place

pub of_readings : IsKindOf Reading readings
of_readings = record {
  octet = refl;
  sized = λ octets load is. search (rules, tests);
  some = omega arith;
  there = λ book place here. here;
  back = λ book place here. here;
}

pub of_pieces : IsKindOf Piece pieces
of_pieces = record {
  octet = refl;
  sized = λ octets load is. search (rules, tests);
  some = omega arith;
  there = λ book place here. here;
  back = λ book place here. here;
}

module _ {T : Type 0} (loads : LoadKind) (kind : Ghosts T) (of : IsKindOf loads kind) (octets : List ℕ) (below : AreOctets octets) (layout : LayoutState) (laid : layout_reads octets ≡ Ok layout) (is : layout.kind ≡ loads) where
  octet_is : slice_index (trailer_of octets) kind_at ≡ octet_of loads
  octet_is = kind_octet (slice_index (trailer_of octets) kind_at) loads ((layout_read octets layout laid).kind ∙ ap Some is)

  -- a sheet of them that is read is spelled so
  pub kind_spelled : (sheet : SheetParts T) → sheet_read kind layout ≡ Ok sheet → IsSpelled kind sheet octets
  kind_spelled sheet read = sheet_spelled kind of.sized octets below layout sheet laid (octet_is ∙ of.octet) read

  -- and one that is turned down is so for its first fault
  pub kind_verdict : Verdict octets (sheet_read kind layout)
  kind_verdict =
      let book = book_octets (lists_of octets) (trailer_of octets) in
      sheet_verdict octets layout laid below kind of.sized of.some
      (λ place (other, named, here). of.there book place (subst (λ kind. HasNoLoadOf kind book place) (same_kind other loads (sym named ∙ octet_is)) here))
      (λ place here. (loads, octet_is, of.back book place here))
