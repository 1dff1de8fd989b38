-- Sections of two texts of which other sections see the same: names, exports and imports.
use Rattle.sc_back_performer_laws.proofs.Common.{Bool, HeadTree, ImportLine, List, SectionTree, Some, [], agrees_there}
use Rattle.sc_back_performer_laws.proofs.Common.{agrees_with, all_hold, among, and_rest, ap, bytes_eq, codes}
use Rattle.sc_back_performer_laws.proofs.Common.{defines_main, environment, export_names, false, heads_in}
use Rattle.sc_back_performer_laws.proofs.Common.{if◌then◌else◌, import_of, interface_of, interfaces_from, interfaces_of}
use Rattle.sc_back_performer_laws.proofs.Common.{is_some, main_from, map, not, number_by_name, number_or_zero, offered}
use Rattle.sc_back_performer_laws.proofs.Common.{offering, offers, refl, subst, suc, true, ℕ, ◌==◌, ◌∙◌, ◌∷◌, ◌≡◌}
use Rattle.sc_types_scope.specs.Prelude.{proto_of}
use Rattle.sc_event.specs.declared.interface.Import.TheVariants as import

-- import lines of the same names
pub record IsAlike (a b : ImportLine) : Type 0 where
  pub comp : b.comp ≡ a.comp
  pub name : b.name ≡ a.name

abbrev pub AreAlike : List ImportLine → List ImportLine → Type 0
AreAlike [] [] = Unit {0}
AreAlike (a ∷ olds) (b ∷ news) = IsAlike a b × AreAlike olds news
AreAlike _ _ = ⊥

pub record IsSeenAs (old new : SectionTree) : Type 0 where
  pub name : new.name ≡ old.name
  pub exports : export_names new ≡ export_names old
  pub imports : AreAlike old.imports new.imports
  pub protos : map (proto_of new) new.exports ≡ map (proto_of old) old.exports
  pub main : defines_main new ≡ defines_main old
  -- what agreed with an export still does
  pub agrees : (head : HeadTree) → among (export_names old) head.name ≡ true →
      agrees_with (heads_in old.decls) head ≡ true → agrees_with (heads_in new.decls) head ≡ true

abbrev pub AreSeenAs : List SectionTree → List SectionTree → Type 0
AreSeenAs [] [] = Unit {0}
AreSeenAs (old ∷ olds) (new ∷ news) = IsSeenAs old new × AreSeenAs olds news
AreSeenAs _ _ = ⊥

pub alike_self : (lines : List ImportLine) → AreAlike lines lines
alike_self [] = tt
alike_self (line ∷ lines) = (record { comp = refl; name = refl }, alike_self lines)

-- What is offered.

module _ (importer : ℕ) (a b : ImportLine) (alike : IsAlike a b) where
  offers_same : (k : ℕ) (old new : SectionTree) → IsSeenAs old new → offers importer b k new ≡ offers importer a k old
  offers_same k old new seen = λ i.
      all_hold (bytes_eq (seen.name i) (alike.comp i) ∷ not (k == importer) ∷
      among (seen.exports i) (alike.name i) ∷ [])

  offered_same : (k : ℕ) (olds news : List SectionTree) → AreSeenAs olds news →
      offered b (offering importer b k news) ≡ offered a (offering importer a k olds)
  offered_same k [] [] h = refl
  offered_same k [] (new ∷ news) h = absurd h
  offered_same k (old ∷ olds) [] h = absurd h
  offered_same k (old ∷ olds) (new ∷ news) h =
      ap (λ t. offered b (if t then Some (k, new) else offering importer b (suc k) news))
      (offers_same k old new h.0) ∙ by (offers importer a k old) (offered_same (suc k) olds news h.1) where
        by : (t : Bool) →
            offered b (offering importer b (suc k) news) ≡ offered a (offering importer a (suc k) olds) →
            offered b (if t then Some (k, new) else offering importer b (suc k) news) ≡
            offered a (if t then Some (k, old) else offering importer a (suc k) olds)
        by true rest = λ i. import.Function k (number_or_zero (number_by_name (h.0.exports i) (alike.name i)))
        by false rest = rest

  pub some_same : (k : ℕ) (olds news : List SectionTree) → AreSeenAs olds news →
      is_some (offering importer b k news) ≡ is_some (offering importer a k olds)
  some_same k [] [] h = refl
  some_same k [] (new ∷ news) h = absurd h
  some_same k (old ∷ olds) [] h = absurd h
  some_same k (old ∷ olds) (new ∷ news) h =
      ap (λ t. is_some (if t then Some (k, new) else offering importer b (suc k) news))
      (offers_same k old new h.0) ∙ by (offers importer a k old) (some_same (suc k) olds news h.1) where
        by : (t : Bool) → is_some (offering importer b (suc k) news) ≡ is_some (offering importer a (suc k) olds) →
            is_some (if t then Some (k, new) else offering importer b (suc k) news) ≡
            is_some (if t then Some (k, old) else offering importer a (suc k) olds)
        by true rest = refl
        by false rest = rest

  pub import_same : (olds news : List SectionTree) → AreSeenAs olds news →
      import_of news importer b ≡ import_of olds importer a
  import_same olds news h = λ i.
      if bytes_eq (alike.comp i) environment
      then (if bytes_eq (alike.name i) (codes "input") then import.Input else import.Output)
      else offered_same 0 olds news h i

  -- a prototype of the import's name that agreed with what was offered agrees with what is
  module _ (sections others : List SectionTree) (number place : ℕ) (section other : SectionTree) (head : HeadTree)
      (named : a.name ≡ head.name) where
    pub agrees_there_too : (k : ℕ) (olds news : List SectionTree) → AreSeenAs olds news →
        agrees_there sections number section head (offering importer a k olds) ≡ true →
        agrees_there others place other head (offering importer b k news) ≡ true
    agrees_there_too k [] [] h agrees = refl
    agrees_there_too k [] (new ∷ news) h agrees = absurd h
    agrees_there_too k (old ∷ olds) [] h agrees = absurd h
    agrees_there_too k (old ∷ olds) (new ∷ news) h agrees =
        ap (λ t. agrees_there others place other head (if t then Some (k, new) else offering importer b (suc k) news))
        (offers_same k old new h.0) ∙ by (offers importer a k old) refl agrees
        (agrees_there_too (suc k) olds news h.1) where
          by : (t : Bool) → offers importer a k old ≡ t →
              agrees_there sections number section head
              (if t then Some (k, old) else offering importer a (suc k) olds) ≡ true →
              (agrees_there sections number section head (offering importer a (suc k) olds) ≡ true →
              agrees_there others place other head (offering importer b (suc k) news) ≡ true) →
              agrees_there others place other head (if t then Some (k, new) else offering importer b (suc k) news) ≡
              true
          by true is agrees rest =
              h.0.agrees head (subst (λ n. among (export_names old) n ≡ true) named
              (and_rest (not (k == importer)) _ (and_rest (bytes_eq old.name a.comp) _ is))) agrees
          by false is agrees rest = rest agrees

-- The interfaces of texts.

module _ (olds news : List SectionTree) (all : AreSeenAs olds news) where
  pub imports_same : (importer : ℕ) (xs ys : List ImportLine) → AreAlike xs ys →
      map (import_of news importer) ys ≡ map (import_of olds importer) xs
  imports_same importer [] [] h = refl
  imports_same importer [] (b ∷ ys) h = absurd h
  imports_same importer (a ∷ xs) [] h = absurd h
  imports_same importer (a ∷ xs) (b ∷ ys) h = λ i.
      import_same importer a b h.0 olds news all i ∷ imports_same importer xs ys h.1 i

  pub interface_same : (k : ℕ) (old new : SectionTree) → IsSeenAs old new →
      interface_of news k new ≡ interface_of olds k old
  interface_same k old new seen = λ i. record {
    name = seen.name i;
    exports = seen.protos i;
    imports = imports_same k old.imports new.imports seen.imports i;
  }

  interfaces_from_same : (k : ℕ) (xs ys : List SectionTree) → AreSeenAs xs ys →
      interfaces_from news k ys ≡ interfaces_from olds k xs
  interfaces_from_same k [] [] h = refl
  interfaces_from_same k [] (y ∷ ys) h = absurd h
  interfaces_from_same k (x ∷ xs) [] h = absurd h
  interfaces_from_same k (x ∷ xs) (y ∷ ys) h = λ i.
      interface_same k x y h.0 i ∷ interfaces_from_same (suc k) xs ys h.1 i

  main_same : (k : ℕ) (xs ys : List SectionTree) → AreSeenAs xs ys → main_from k ys ≡ main_from k xs
  main_same k [] [] h = refl
  main_same k [] (y ∷ ys) h = absurd h
  main_same k (x ∷ xs) [] h = absurd h
  main_same k (x ∷ xs) (y ∷ ys) h = λ i. if h.0.main i then k else main_same (suc k) xs ys h.1 i

  pub interfaces_same : interfaces_of news ≡ interfaces_of olds
  interfaces_same = λ i. record {
    comps = interfaces_from_same 0 olds news all i;
    main = main_same 0 olds news all i;
  }
