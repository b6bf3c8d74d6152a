-- The content of a row, as C has it (GNU SFrame specification, Version 2, frame row entries).
use Rattle.std.specs.Prelude.{ℤ, pos, negsuc, zero, Option, Some, None, is_some, unwrap_or}
use Rattle.sf_model.specs.declared.content.Content.{Content}
use Rattle.sf_model.specs.declared.content.Ra.{Ra}
use Rattle.sf_model.specs.declared.content.Ra.TheVariants.{Fixed, Link, At}
use Rattle.sf_model.specs.RowBytes.{base_number}
use Rattle.sf_link_c.specs.declared.contents.KiblawenContent.{KiblawenContent}
use Rattle.sf_link_c.specs.Omissions.{flag}

-- the offset from the canonical frame address at which the return address is saved, if it is not in the link register
abbrev pub saved_return : Ra → Option ℤ
saved_return Fixed = Some (negsuc 7)
saved_return Link = None
saved_return (At offset) = Some offset

-- a content, as C has it
abbrev pub content_shown : Content → KiblawenContent
content_shown content = record {
  is_known = 1;
  base = base_number content.base;
  cfa_offset = content.cfa;
  ra_saved = flag (is_some (saved_return content.ra));
  ra_offset = unwrap_or (saved_return content.ra) (pos zero);
  fp_saved = flag (is_some content.fp);
  fp_offset = unwrap_or content.fp (pos zero);
  is_signed = flag content.signed;
}

-- no content
abbrev pub no_content : KiblawenContent
no_content = record {
  is_known = 0;
  base = 0;
  cfa_offset = pos zero;
  ra_saved = 0;
  ra_offset = pos zero;
  fp_saved = 0;
  fp_offset = pos zero;
  is_signed = 0;
}

-- a content, or none
abbrev pub content_or_none : Option Content → KiblawenContent
content_or_none (Some content) = content_shown content
content_or_none None = no_content
