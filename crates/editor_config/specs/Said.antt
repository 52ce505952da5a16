-- What `.editorconfig` files say of a file.
use Rattle.std.specs.Prelude.{ℕ, Bool, true, false, List, [], ◌∷◌, Option, Some, None, if◌then◌else◌, unwrap_or}
use Rattle.std.specs.Option.{option_or}
use Rattle.editor_config.specs.Patterns.{fits_pieces}
use Rattle.editor_config.specs.declared.config.Config.{Config}
use Rattle.editor_config.specs.declared.config.Section.{Section}
use Rattle.editor_config.specs.declared.settings.IndentSize.{IndentSize}
use Rattle.editor_config.specs.declared.settings.IndentSize.TheVariants.{Columns, TabWidth}
use Rattle.editor_config.specs.declared.settings.IndentStyle.{IndentStyle}
use Rattle.editor_config.specs.declared.settings.IndentStyle.TheVariants.{Spaces, Tabs}
use Rattle.editor_config.specs.declared.settings.EndOfLine.{EndOfLine}
use Rattle.editor_config.specs.declared.settings.Settings.{Settings}

-- nothing is said
abbrev pub silent : Settings
silent = record { indent_style = None; indent_size = None; tab_width = None; max_line_length = None; end_of_line = None }

-- what the first say, and of the properties that they do not say, what the second say
abbrev pub said_over : Settings → Settings → Settings
said_over first second = record {
  indent_style = option_or first.indent_style second.indent_style;
  indent_size = option_or first.indent_size second.indent_size;
  tab_width = option_or first.tab_width second.tab_width;
  max_line_length = option_or first.max_line_length second.max_line_length;
  end_of_line = option_or first.end_of_line second.end_of_line;
}

-- what the sections of a file say of a path: of those whose patterns it fits, the last that says a property counts
abbrev pub said_by_sections : List ℕ → List Section → Settings
said_by_sections path [] = silent
said_by_sections path (section ∷ later) =
    if fits_pieces section.pattern.pieces.items path then said_over (said_by_sections path later) section.settings
    else said_by_sections path later

-- what files say of a path, the nearest first: the first that says a property counts
abbrev pub said_by_files : List ℕ → List Config → Settings
said_by_files path [] = silent
said_by_files path (nearest ∷ above) = said_over (said_by_sections path nearest.sections.items) (said_by_files path above)

-- the width of a line
abbrev pub width_of : Settings → Option ℕ
width_of settings = unwrap_or settings.max_line_length None

-- lines are indented with tabs
abbrev pub is_tabs : Option (Option IndentStyle) → Bool
is_tabs (Some (Some Tabs)) = true
is_tabs (Some (Some Spaces)) = false
is_tabs (Some None) = false
is_tabs None = false

abbrev pub uses_tabs : Settings → Bool
uses_tabs settings = is_tabs settings.indent_style

-- a size in columns, where a tab has this width; with no size, tabs are as far in as they are wide
abbrev pub columns_of : Bool → Option (Option IndentSize) → Option ℕ → Option ℕ
columns_of tabs (Some (Some (Columns n))) tab_width = Some n
columns_of tabs (Some (Some TabWidth)) tab_width = tab_width
columns_of tabs (Some None) tab_width = None
columns_of tabs None tab_width = if tabs then tab_width else None

-- how far in each level is, in columns
abbrev pub indent_of : Settings → Option ℕ
indent_of settings = columns_of (uses_tabs settings) settings.indent_size (unwrap_or settings.tab_width None)

-- what ends a line
abbrev pub line_end_said : Settings → Option EndOfLine
line_end_said settings = unwrap_or settings.end_of_line None
