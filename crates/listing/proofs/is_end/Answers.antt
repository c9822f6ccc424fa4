-- The bytes that a line is compared with are the text of the end.
use Rattle.std.proofs.Common.{◌≡◌, sym, ◌∙◌}
use Rattle.std.proofs.lemmas.Bool.Decides.{Decides-eqb}
use Rattle.std.proofs.lemmas.Slice.Eq.{slice_eq-Decides}
use Rattle.listing.specs.Listing.{end_text}
use Rattle.listing.proofs.Listed.{end_bytes}
use Rattle.listing.proofs.is_end.Goals as goal

pub returns : goal.returns
returns c =
    let same = slice_eq-Decides Decides-eqb _ _ _ c.eq.ensures in
    let text : c.as_slice.result.now ≡ end_text = c.as_slice.ensures ∙ sym end_bytes in
    record { only = λ t. same.0 t ∙ text; always = λ e. same.1 (e ∙ sym text) }
