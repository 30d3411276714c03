-- Entries and templates as requests write them that aren't refused.
use Rattle.std.specs.Prelude.{◌≡◌, List, None, Option}
use Rattle.std.specs.List.{All}
use Rattle.jsp_types.specs.declared.class.Class.{Class}
use Rattle.jsp_types.specs.declared.entry.Raw.{Raw}
use Rattle.jsp_types.specs.Matching.{entry_fault, template_fault}

abbrev pub AllFit : List Class → List (Option Raw) → Type 0
AllFit classes templates = All (λ t. template_fault classes t ≡ None) templates

abbrev pub AllAccepted : List Class → List Raw → Type 0
AllAccepted classes raws = All (λ raw. entry_fault classes raw ≡ None) raws
