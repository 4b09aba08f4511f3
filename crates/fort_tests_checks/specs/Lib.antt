pub mod CheckedFormulas
